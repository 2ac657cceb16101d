mod InstanceNameLemmas
mod Examples
