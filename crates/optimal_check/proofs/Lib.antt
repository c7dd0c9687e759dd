mod LeastLemmas
mod VerdictLemmas
