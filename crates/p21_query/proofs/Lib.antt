mod AnyLemmas
mod FirstLemmas
mod NameLemmas
mod PathLemmas
mod PlainLemmas
mod KeyLemmas
mod JoinLemmas
