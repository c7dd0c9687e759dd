mod AgendaLemmas
mod AstarLemmas
mod NodesLemmas
mod PayLemmas
mod PlanLemmas
mod RelaxLemmas
mod ShareLoops
mod TurnsLemmas
