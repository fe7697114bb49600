pub mod ReadLaws
pub mod RatioLaws
pub mod OfFile
pub mod StrikeLaws
pub mod InsideLaws
pub mod MarkLaws
pub mod KeptLaws
