pub mod AcceptedFits
