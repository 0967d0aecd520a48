pub mod PastedLaws
