pub mod Projects
pub mod Central
pub mod ProjectLaws
