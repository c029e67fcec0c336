-- Valid UTF-8 and lossy forms, built one run or one buffer at a time.
pub mod TextPrefixLemmas
pub mod PrinterLemmas
pub mod PushLemmas
