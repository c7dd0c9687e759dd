-- Calls on one child of the host below that are done again.
use Rattle.std.proofs.Common.{◌≡◌, ℕ, ◌+◌, List, ◌++◌, Result, Ok, Err, refl, sym, subst, arith}
use Rattle.io_world.specs.Talks.{Event}
use Rattle.io_world.specs.declared.host.HostFault.{HostFault}
use Rattle.io_world.specs.declared.host.HostFault.TheVariants.{Failed, Memory}
use Rattle.restart_host.specs.Tries.{Seen, refusals, CalledInner, Tried}
use Rattle.restart_host.proofs.TriesLemmas.{called_as, called_more, called_quiet, called_then}

-- a first try that is made good, and what came of the others
pub tried_again : {T : Type 0} (child : ℕ) (words : List (List ℕ)) (last left mid now : ℕ) (a b c : Seen) (fault : HostFault)
    (result : Result T HostFault) (D E F : List Event → Type 0) → ((xs ys : List Event) → D xs → E ys → F (xs ++ ys))
    → CalledInner child words last a b (refusals (let r : Result (Unit {0}) HostFault = Err fault in r)) D
    → (fault ≡ Failed) × (left ≡ mid + 1) → Tried child words last mid now b c result E
    → Tried child words last left now a c result F
tried_again child words last left mid now a b c Failed result D E F join first spends rest = record {
  count = 1 + rest.count;
  called = called_more child words last a b c 1 rest.count D E F join first rest.called;
  left = omega (arith, spends.1, rest.left);
  most = λ quiet. omega (arith, spends.1, rest.most quiet);
  fewer = omega (arith, spends.1, rest.fewer);
  spent = rest.spent;
}
tried_again child words last left mid now a b c Memory result D E F join first spends rest = absurd (cc (spends.0))

-- a call that was done
pub tried_done : {T : Type 0} (child : ℕ) (words : List (List ℕ)) (last left : ℕ) (a b : Seen) (value : T)
    (D : List Event → Type 0) → CalledInner child words last a b 0 D
    → Tried child words last left left a b (let r : Result T HostFault = Ok value in r) D
tried_done child words last left a b value D called = record {
  count = 0;
  called = called;
  left = omega arith;
  most = λ quiet. omega arith;
  fewer = omega arith;
  spent = λ is. absurd (cc (is));
}

-- a call that was refused
pub tried_refused : {T : Type 0} (child : ℕ) (words : List (List ℕ)) (last left : ℕ) (a b : Seen) (fault : HostFault)
    (D : List Event → Type 0) → CalledInner child words last a b (refusals (let r : Result (Unit {0}) HostFault = Err fault in r)) D
    → (fault ≡ Failed → left ≡ 0)
    → Tried child words last left left a b (let r : Result T HostFault = Err fault in r) D
tried_refused child words last left a b Failed D called none = record {
  count = 1;
  called = called;
  left = omega arith;
  most = λ quiet. omega arith;
  fewer = omega arith;
  spent = λ is. none refl;
}
tried_refused child words last left a b Memory D called none = record {
  count = 0;
  called = called;
  left = omega arith;
  most = λ quiet. omega arith;
  fewer = omega arith;
  spent = λ is. absurd (cc (is));
}

-- calls of which none failed before
pub tried_behind : {T : Type 0} (child : ℕ) (words : List (List ℕ)) (last left now : ℕ) (a b c : Seen)
    (result : Result T HostFault) (D E F : List Event → Type 0) → ((xs ys : List Event) → D xs → E ys → F (xs ++ ys))
    → CalledInner child words last a b 0 D → Tried child words last left now b c result E
    → Tried child words last left now a c result F
tried_behind child words last left now a b c result D E F join first rest = record {
  count = rest.count;
  called = called_then child words last a b c rest.count D E F join first rest.called;
  left = rest.left;
  most = rest.most;
  fewer = rest.fewer;
  spent = rest.spent;
}

-- calls of which none failed behind
pub tried_before : {T : Type 0} (child : ℕ) (words : List (List ℕ)) (last left now : ℕ) (a b c : Seen)
    (result : Result T HostFault) (D E F : List Event → Type 0) → ((xs ys : List Event) → D xs → E ys → F (xs ++ ys))
    → Tried child words last left now a b result D → CalledInner child words last b c 0 E
    → Tried child words last left now a c result F
tried_before child words last left now a b c result D E F join first rest = record {
  count = first.count;
  called = called_quiet child words last a b c first.count D E F join first.called rest;
  left = first.left;
  most = first.most;
  fewer = first.fewer;
  spent = first.spent;
}

-- tries that went well, and then others
pub tried_joined : {T U : Type 0} (child : ℕ) (words : List (List ℕ)) (last left mid now : ℕ) (a b c : Seen) (value : U)
    (result : Result T HostFault) (D E F : List Event → Type 0) → ((xs ys : List Event) → D xs → E ys → F (xs ++ ys))
    → Tried child words last left mid a b (let r : Result U HostFault = Ok value in r) D
    → Tried child words last mid now b c result E
    → Tried child words last left now a c result F
tried_joined child words last left mid now a b c value result D E F join first rest = record {
  count = first.count + rest.count;
  called = called_more child words last a b c first.count rest.count D E F join first.called rest.called;
  left = omega (arith, first.left, rest.left);
  most = λ quiet. omega (arith, first.most refl, rest.most quiet);
  fewer = omega (arith, first.fewer, rest.fewer);
  spent = rest.spent;
}

-- the same tries, where the call answers otherwise for want of memory
pub tried_unheard : {T U : Type 0} (child : ℕ) (words : List (List ℕ)) (last left now : ℕ) (a b : Seen)
    (result : Result T HostFault) (D E : List Event → Type 0) → ((events : List Event) → D events → E events)
    → Tried child words last left now a b result D
    → Tried child words last left now a b (let r : Result U HostFault = Err Memory in r) E
tried_unheard child words last left now a b result D E weaker tried = record {
  count = tried.count;
  called = called_as child words last a b tried.count D E weaker tried.called;
  left = omega (arith, tried.left);
  most = λ quiet. absurd (cc (quiet));
  fewer = tried.fewer;
  spent = λ is. absurd (cc (is));
}

-- the same tries, where the call answers the same fault
pub tried_as : {T U : Type 0} (child : ℕ) (words : List (List ℕ)) (last left now : ℕ) (a b : Seen) (fault : HostFault)
    (D E : List Event → Type 0) → ((events : List Event) → D events → E events)
    → Tried child words last left now a b (let r : Result T HostFault = Err fault in r) D
    → Tried child words last left now a b (let r : Result U HostFault = Err fault in r) E
tried_as child words last left now a b Failed D E weaker tried = record {
  count = tried.count;
  called = called_as child words last a b tried.count D E weaker tried.called;
  left = tried.left;
  most = λ quiet. tried.most refl;
  fewer = tried.fewer;
  spent = λ is. tried.spent refl;
}
tried_as child words last left now a b Memory D E weaker tried =
    tried_unheard child words last left now a b _ D E weaker tried

-- the same tries, of which something else is said
pub tried_so : {T : Type 0} (child : ℕ) (words : List (List ℕ)) (last left now : ℕ) (a b : Seen) (result : Result T HostFault)
    (D E : List Event → Type 0) → ((events : List Event) → D events → E events)
    → Tried child words last left now a b result D → Tried child words last left now a b result E
tried_so child words last left now a b result D E weaker tried = record {
  count = tried.count;
  called = called_as child words last a b tried.count D E weaker tried.called;
  left = tried.left;
  most = tried.most;
  fewer = tried.fewer;
  spent = tried.spent;
}

-- a try that is refused, as what is left of failures that are made good says
pub tried_spent : {T : Type 0} (child : ℕ) (words : List (List ℕ)) (last left mid : ℕ) (a b : Seen) (fault refused : HostFault)
    (D : List Event → Type 0) → CalledInner child words last a b (refusals (let r : Result (Unit {0}) HostFault = Err fault in r)) D
    → (refused ≡ fault) × (mid ≡ left) × (fault ≡ Failed → left ≡ 0)
    → Tried child words last left mid a b (let r : Result T HostFault = Err refused in r) D
tried_spent {T} child words last left mid a b fault refused D called spends =
    subst (λ m. Tried child words last left m a b (let r : Result T HostFault = Err refused in r) D) (sym spends.1)
    (subst (λ f. Tried child words last left left a b (let r : Result T HostFault = Err f in r) D) (sym spends.0)
    (tried_refused child words last left a b fault D called spends.2))
