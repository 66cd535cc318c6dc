pub mod PairCompact
