pub mod RaisedLaws
pub mod SeveralLaws
pub mod NumberedLaws
pub mod PuttingLaws
pub mod BitLaws
pub mod GroupLaws
