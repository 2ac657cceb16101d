pub mod LineEndLemmas
pub mod PaintedLemmas
pub mod PlaceLemmas
pub mod PrintedLemmas
