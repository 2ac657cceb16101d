pub mod HistoryLemmas
pub mod ParcelLemmas
