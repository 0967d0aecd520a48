pub mod LstLaws
