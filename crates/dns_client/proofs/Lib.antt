pub mod MemoLemmas
pub mod ReaderLemmas
