-- What a host that answers by a function is seen as.
use Rattle.std.specs.Prelude.{◌≡◌, ◌≢◌, ℕ, Bool, false, List, length, take, drop, min, slice_get, unwrap_or, Result, IfOk, IfErr, OnOk, OnErr}
use Rattle.io_world.specs.Logs.{Calls}
use Rattle.io_world.specs.Replies.{ReplyState, Replies, no_reply, next_bytes}
use Rattle.io_world.specs.declared.host.HostFault.{HostFault}
use Rattle.io_world.specs.declared.host.HostFault.TheVariants.{Memory}

pub record SureChild : Type 0 where
  pub running : Bool
  pub reply : ReplyState

pub record SureHostState (A : Type 0) : Type 0 where
  pub answers : A
  pub children : List SureChild
  pub calls : Calls

-- a child that was never started
abbrev pub unborn : SureChild
unborn = record { running = false; reply = no_reply }

abbrev pub child_of : List SureChild → ℕ → SureChild
child_of children child = unwrap_or (slice_get children child) unborn

abbrev pub runs : List SureChild → ℕ → Bool
runs children child = (child_of children child).running

-- A call on a child is refused only for want of memory. It leaves the function and the other children as they were and,
-- where it is done, the log as whole as before.
pub record ServesCall {A T : Type 0} (child : ℕ) (old new : SureHostState A) (result : Result T HostFault)
    : Type 0 where
  pub sure : IfErr result (λ fault. fault ≡ Memory)
  pub others : (k : ℕ) → k ≢ child → child_of new.children k ≡ child_of old.children k
  pub whole : OnOk result (new.calls.whole ≡ old.calls.whole)
  pub answers : new.answers ≡ old.answers

-- A child that is written to takes all of these bytes and answers each request that became whole, or is as it was.
pub record TakesRequests (answers : List ℕ → List ℕ) (bytes : List ℕ) (old new : SureChild)
    (result : Result ℕ HostFault) : Type 0 where
  pub all : IfOk result (λ n. n ≡ length bytes)
  pub replies : OnOk result (Replies answers bytes old.reply new.reply)
  pub kept : OnErr result (new ≡ old)

-- A child that is read from gives as much of its next bytes as the room takes, and holds the rest, or is as it was.
pub record Drains (room filled : List ℕ) (old new : SureChild) (result : Result ℕ HostFault) : Type 0 where
  pub most : IfOk result (λ n. n ≡ min (length (next_bytes old.reply)) (length room))
  pub bytes : IfOk result (λ n. take n filled ≡ take n (next_bytes old.reply))
  pub reply : IfOk result (λ n. new.reply ≡ record old.reply { pending = drop n (next_bytes old.reply) })
  pub kept : OnErr result (new ≡ old)
