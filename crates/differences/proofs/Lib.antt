pub mod DifferenceLaws
