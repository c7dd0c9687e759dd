-- What the fields of a session show.
use Rattle.session_core.specs.State.{State}
use Rattle.session_core.specs.declared.session.Session.TheInside.{Inside}

abbrev pub shown_session : Inside → State
shown_session s =
    record {
      version = s.version;
      calls = s.calls;
      pools = s.pools.items;
      entries = s.entries.items;
      asked = s.knowledge.asked.items;
      known = s.knowledge.facts.known;
      notes = s.knowledge.queue;
      learnt = s.learnt;
      is_open = s.is_open;
      asks = s.round.asks.items;
      instances = s.round.instances.items;
      slots = s.round.cells.items;
      failed = s.failed;
    }
