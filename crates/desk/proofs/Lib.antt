pub mod CallLaws
pub mod Pinned
pub mod PinnedSession
pub mod PinnedUltimate
pub mod PinnedStrikes
pub mod PinnedResidues
