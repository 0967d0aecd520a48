pub mod NumeralLaws
pub mod WorkedOutLaws
pub mod PuttingLaws
