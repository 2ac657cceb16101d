mod CellLemmas
mod RowLemmas
