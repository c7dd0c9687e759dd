pub mod RefusalsLemmas
pub mod FitTask
pub mod SpelledLemmas
pub mod RisingLemmas
