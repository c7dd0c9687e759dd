pub mod Skeletons
