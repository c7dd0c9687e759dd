-- The faults of a join as faults of a queue.
use Rattle.fact_join.specs.declared.query.JoinFault.{JoinFault}
use Rattle.fact_join.specs.declared.query.JoinFault.TheVariants as join
use Rattle.instance_queue.specs.declared.due.QueueFault.{QueueFault}
use Rattle.instance_queue.specs.declared.due.QueueFault.TheVariants.{TooManyInstances, Memory}

abbrev pub fault_of : JoinFault → QueueFault
fault_of join.TooMany = TooManyInstances
fault_of join.Memory = Memory
