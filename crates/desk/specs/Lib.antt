pub mod Sizes
pub mod Calls
pub mod CallLaws
pub mod Pinned
pub mod PinnedUltimate
pub mod PinnedStrikes
pub mod PinnedResidues
