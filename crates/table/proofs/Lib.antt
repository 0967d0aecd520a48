pub mod ViewLaws
pub mod SizesLaws
pub mod WordsLaws
pub mod Fitting
pub mod BlankLaws
