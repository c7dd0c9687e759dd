-- A state and the world after the same steps.
use Rattle.grid_play.specs.Worlds.{World}
use Rattle.grid_text.specs.Grids.{GridFile}
use Rattle.grid_text.specs.declared.grid.Block.{Block}
use Rattle.grid_world.specs.Words.{pose_of}
use Rattle.grid_world.specs.declared.words.Corner.{Corner}
use Rattle.lemmas.proofs.Options.{same_some}
use Rattle.play_laws.proofs.ActionLemmas.{at_atom, free_atom, holding_atom}
use Rattle.play_laws.proofs.FirstLemmas.{made}
use Rattle.play_laws.proofs.KnownLemmas.{facts, name}
use Rattle.play_laws.proofs.WorldLemmas.{NoneShare, names_block}
use Rattle.std.proofs.Common.{◌≡◌, ◌≢◌, ℕ, true, List, [], ◌∷◌, sym, ap, ◌∙◌, arith, Some, None, All, slice_get}
use Rattle.std.proofs.lemmas.List.Elements.{All-contains}
use Rattle.std.proofs.lemmas.Slice.Eq.{bytes_eq-Decides}
use Rattle.std.specs.Str.{bytes_eq}
use Rattle.task_model.proofs.KnownLemmas.{fact_member}
use Rattle.task_model.proofs.StreamsLemmas.{named_at}
use Rattle.task_model.specs.Fit.{IsFit}
use Rattle.task_model.specs.Known.{IsIn, type_fact}
use Rattle.task_model.specs.State.{Atoms, contains}
use Rattle.task_model.specs.Truth.{has_type}
use Rattle.task_model.specs.declared.fact.Atom.{Atom}
use Rattle.task_model.specs.declared.fact.Fact.{Fact}
use Rattle.task_model.specs.declared.task.Problem.{Problem}
use Rattle.transcript_model.proofs.CoherentLemmas.{coherent}
use Rattle.transcript_model.proofs.NamesLemmas.{position_at}
use Rattle.transcript_model.specs.Legal.{IsLegal}
use Rattle.transcript_model.specs.Transcript.{known_of, names_of}
use Rattle.transcript_model.specs.declared.entry.Entry.{Entry}

-- ---- atoms

pub at_parts : (o q b p : ℕ) → at_atom o q ≡ at_atom b p → (o ≡ b) × (q ≡ p)
at_parts o q b p e =
    let args : o ∷ q ∷ [] ≡ b ∷ p ∷ [] = ap (λ (a : Atom). a.args) e in (cc, cc)

pub holding_parts : (o g b h : ℕ) → holding_atom o g ≡ holding_atom b h → (o ≡ b) × (g ≡ h)
holding_parts o g b h e =
    let args : o ∷ g ∷ [] ≡ b ∷ h ∷ [] = ap (λ (a : Atom). a.args) e in (cc, cc)

pub other_pred : (a b : Atom) → (a.pred ≡ b.pred → ⊥) → a ≢ b
other_pred a b apart e = apart (ap (λ (x : Atom). x.pred) e)

-- ---- states and worlds

module _ (problem : Problem) (grid : GridFile) (entries : List Entry) where
  abbrev pub word : ℕ → List ℕ
  word object = name problem grid entries object

  abbrev pub typed : ℕ → ℕ → Type 0
  typed object sort = has_type (known_of (made problem) entries) object sort ≡ true

  abbrev pub IsBlock : ℕ → ℕ → Type 0
  IsBlock object i = names_block grid (word object) i

  -- The block o is at the pose q.
  pub record IsPlaced (world : World) (o q : ℕ) : Type 0 where
    pub i : ℕ
    pub corner : Corner
    pub block : IsBlock o i
    pub pose : pose_of grid (word q) ≡ Some corner
    pub here : slice_get world i ≡ Some (Some corner)
    pub block_type : typed o 1
    pub pose_type : typed q 3

  -- The state and the world say the same of where the blocks are.
  pub record Stands (state : Atoms) (world : World) : Type 0 where
    pub placed : (o q : ℕ) → contains state (at_atom o q) ≡ true → IsPlaced world o q
    pub back : (i : ℕ) (c : Corner) → slice_get world i ≡ Some (Some c)
        → (o : ℕ) × (q : ℕ) × IsBlock o i × (contains state (at_atom o q) ≡ true)
    pub single : (o p q : ℕ) → contains state (at_atom o p) ≡ true → contains state (at_atom o q) ≡ true → p ≡ q
    pub held : (o g : ℕ) → contains state (holding_atom o g) ≡ true
        → (i : ℕ) × IsBlock o i × (slice_get world i ≡ Some None)
    pub grip : (o g p h : ℕ) → contains state (holding_atom o g) ≡ true → contains state (holding_atom p h) ≡ true
        → (o ≡ p) × (g ≡ h)
    pub hand : contains state free_atom ≡ true → (i : ℕ) → slice_get world i ≢ Some None
    pub one : (i j : ℕ) → slice_get world i ≡ Some None → slice_get world j ≡ Some None → i ≡ j
    pub apart : NoneShare grid world

  -- ---- objects and blocks

  pub same_place : (o i j : ℕ) → IsBlock o i → IsBlock o j → i ≡ j
  same_place o i j a b = let both : Some i ≡ Some j = sym a ∙ b in cc

  pub block_name : (o i : ℕ) → IsBlock o i → (b : Block) × (slice_get grid.blocks i ≡ Some b) × (b.name ≡ word o)
  block_name o i is =
      let found = position_at (λ (b : Block). bytes_eq b.name (word o)) grid.blocks i is in
      (found.0, found.1, (bytes_eq-Decides found.0.name (word o)).0 found.2)

  module _ (version : ℕ) (fit : IsFit (made problem)) (legal : IsLegal version (made problem) entries) where
    pub in_names : (o sort : ℕ) → typed o sort → slice_get (names_of (made problem) entries) o ≡ Some (word o)
    in_names o sort is =
        let there = (fact_member (facts problem grid entries) (type_fact sort o)).0 is in
        let objects = All-contains (λ (f : Fact). All (IsIn (names_of (made problem) entries)) f.args) (facts problem grid entries) (type_fact sort o) (coherent version (made problem) entries fit legal).objects there in
        named_at (names_of (made problem) entries) o (objects 0 o (omega arith))

    -- objects of types that are one block are one
    pub one_object : (o b i : ℕ) → typed o 1 → typed b 1 → IsBlock o i → IsBlock b i → o ≡ b
    one_object o b i o_type b_type first second =
        let one = block_name o i first in
        let other = block_name b i second in
        let blocks : one.0 ≡ other.0 = same_some _ _ _ one.1 other.1 in
        let words : word o ≡ word b = sym one.2 ∙ ap (λ (x : Block). x.name) blocks ∙ other.2 in
        (coherent version (made problem) entries fit legal).names o b (word b)
        (in_names o 1 o_type ∙ ap Some words) (in_names b 1 b_type)
