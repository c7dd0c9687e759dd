pub mod SkeletonLemmas
