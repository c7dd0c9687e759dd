-- What a problem that tells a grid says at first.
use Rattle.grid_play.specs.Worlds.{home_corner}
use Rattle.grid_text.specs.Grids.{GridFile, NamedRect, area}
use Rattle.grid_text.specs.Rects.{is_within, meets}
use Rattle.grid_text.specs.declared.grid.Block.{Block}
use Rattle.grid_world.specs.Answers.{is_blocked}
use Rattle.grid_world.specs.Words.{block_named, home_of, pose_of, rect_at}
use Rattle.lemmas.proofs.Ascending.{contains_here, in_flat_map}
use Rattle.lemmas.proofs.Bools.{and_not_parts}
use Rattle.lemmas.proofs.ListTests.{all_at, any_found}
use Rattle.lemmas.proofs.Members.{get_append, member_at, place_of}
use Rattle.play_laws.proofs.FoundLemmas.{any_from, any_mapped, atom_is, atom_itself, is_there, meets_swap}
use Rattle.play_laws.specs.GridTasks.{grid_domain, grid_streams}
use Rattle.play_laws.specs.Problems.{all_apart, are_blocks_apart, are_home, block_tells, fact_tells, first_is, sorts_in, is_at_of, is_block, is_declared, is_small, tells_grid}
use Rattle.std.proofs.Common.{◌≡◌, ◌≢◌, ℕ, zero, suc, ◌+◌, ◌<◌, ◌≤◌, ◌⊎◌, inl, inr, Bool, true, false, not, ◌&&◌, ◌||◌, ◌==◌, cond, nat_lt, nat_le, List, [], ◌∷◌, ◌++◌, codes, filter, length, refl, sym, subst, ap, ◌∙◌, arith, Option, Some, None, Contains, slice_get, option_map, unwrap_or}
use Rattle.std.proofs.lemmas.Bool.{cases_order, eqb-true, leb-true}
use Rattle.std.proofs.lemmas.List.Elements.{Contains-append_left, Contains-append_right}
use Rattle.std.proofs.lemmas.Option.{slice_get-map}
use Rattle.std.proofs.lemmas.Slice.Eq.{bytes_eq-Decides}
use Rattle.std.specs.Cmp.{first_so, second_so}
use Rattle.std.specs.List.{filter_map, flat_map, list_all, list_any}
use Rattle.std.specs.Ordering.{eq_by_cmp}
use Rattle.std.specs.Str.{bytes_eq}
use Rattle.task_model.proofs.KnownLemmas.{fact_member, facts_kept, with_facts-is}
use Rattle.task_model.proofs.StateLemmas.{contains-from_list}
use Rattle.task_model.specs.AtomOrder.{atom_cmp}
use Rattle.task_model.specs.Fit.{IsFit, has_arity, is_derived_role, is_fit_fact, is_predicate, is_short}
use Rattle.task_model.specs.Initial.{declared_names, declared_types, fluent_atom, fluent_by, initial_facts, initial_state, is_static, type_facts}
use Rattle.task_model.specs.Known.{is_fact, type_fact}
use Rattle.task_model.specs.Roles.{role_of}
use Rattle.task_model.specs.State.{contains}
use Rattle.task_model.specs.Streams.{name_at}
use Rattle.task_model.specs.Truth.{has_type}
use Rattle.task_model.specs.declared.domain.Declared.{Declared}
use Rattle.task_model.specs.declared.domain.Role.TheVariants.{Static, Fluent, Derived}
use Rattle.task_model.specs.declared.domain.Role.{Role}
use Rattle.task_model.specs.declared.fact.Atom.{Atom}
use Rattle.task_model.specs.declared.fact.Fact.{Fact}
use Rattle.task_model.specs.declared.fact.Kind.TheVariants.{Predicate, Sort}
use Rattle.task_model.specs.declared.fact.Kind.{Kind}
use Rattle.task_model.specs.declared.task.Problem.{Problem}
use Rattle.task_model.specs.declared.task.Task.{Task}
use Rattle.transcript_model.proofs.NamesLemmas.{with_names-front}
use Rattle.transcript_model.specs.Transcript.{certified, known_of, names_of, objects_in}
use Rattle.transcript_model.specs.declared.entry.Entry.{Entry}

abbrev pub made : Problem → Task
made problem = record { domain = grid_domain; problem = problem; streams = grid_streams }

-- ---- the problem

-- what is asked of a fact of this name at first
abbrev Told : ℕ → Bool → Type 0
Told n home = cond ((n == 1) || (n == 6)) home (not ((n == 4) || (n == 5) || (n == 8))) ≡ true

module _ (problem : Problem) (grid : GridFile) (tells : tells_grid (made problem) grid ≡ true) where
  abbrev facts_pass : Bool
  facts_pass = list_all (fact_tells (made problem) grid) problem.init

  abbrev blocks_pass : Bool
  blocks_pass = list_all (block_tells (made problem) grid) grid.blocks

  facts_tell : facts_pass ≡ true
  facts_tell =
      first_so facts_pass blocks_pass
      (first_so (facts_pass && blocks_pass) (all_apart grid.blocks)
      (first_so (facts_pass && blocks_pass && all_apart grid.blocks) (is_small grid) tells))

  blocks_tell : blocks_pass ≡ true
  blocks_tell =
      second_so facts_pass blocks_pass
      (first_so (facts_pass && blocks_pass) (all_apart grid.blocks)
      (first_so (facts_pass && blocks_pass && all_apart grid.blocks) (is_small grid) tells))

  blocks_apart : all_apart grid.blocks ≡ true
  blocks_apart =
      second_so (facts_pass && blocks_pass) (all_apart grid.blocks)
      (first_so (facts_pass && blocks_pass && all_apart grid.blocks) (is_small grid) tells)

  small : is_small grid ≡ true
  small = second_so (facts_pass && blocks_pass && all_apart grid.blocks) (is_small grid) tells

  -- a block that lies in a region has a small corner
  pub corner_small : (region : NamedRect) (x y w h : ℕ) → Contains grid.regions region
      → is_within (record { x = x; y = y; w = w; h = h }) region.rect ≡ true → (x ≤ 1000) × (y ≤ 1000)
  unfolding is_within
  corner_small region x y w h there inside =
      let sized = first_so (nat_le grid.width 1000 && nat_le grid.height 1000) _ small in
      let wide = leb-true grid.width 1000 (first_so (nat_le grid.width 1000) (nat_le grid.height 1000) sized) in
      let high = leb-true grid.height 1000 (second_so (nat_le grid.width 1000) (nat_le grid.height 1000) sized) in
      let at = place_of grid.regions region there in
      let lies : is_within region.rect (area grid) ≡ true =
      all_at (λ (r : NamedRect). is_within r.rect (area grid)) grid.regions at.0 region
      (second_so (nat_le grid.width 1000 && nat_le grid.height 1000) _ small) at.1 in
      let r = region.rect in
      let outer = bounds (nat_le 0 r.x) (nat_le 0 r.y) (nat_le (r.x + r.w) (0 + grid.width)) (nat_le (r.y + r.h) (0 + grid.height)) lies in
      let inner = bounds (nat_le r.x x) (nat_le r.y y) (nat_le (x + w) (r.x + r.w)) (nat_le (y + h) (r.y + r.h)) inside in (
        chain x w (r.x + r.w) grid.width (leb-true (x + w) (r.x + r.w) inner.0) (leb-true (r.x + r.w) (0 + grid.width) outer.0) wide,
        chain y h (r.y + r.h) grid.height (leb-true (y + h) (r.y + r.h) inner.1) (leb-true (r.y + r.h) (0 + grid.height) outer.1) high,
      )
    where
      bounds : (a b c d : Bool) → (a && b && c && d) ≡ true → (c ≡ true) × (d ≡ true)
      bounds a b c d e = (second_so (a && b) c (first_so (a && b && c) d e), second_so (a && b && c) d e)

      chain : (x w m n : ℕ) → x + w ≤ m → m ≤ 0 + n → n ≤ 1000 → x ≤ 1000
      chain x w m n a b c = omega (arith, a, b, c)

  -- ---- blocks

  -- at first it lies in no obstacle
  pub free_at_home : (block : Block) → Contains grid.blocks block
      → is_blocked grid (rect_at block (home_corner block)) ≡ false
  free_at_home block there =
      let at = place_of grid.blocks block there in
      (and_not_parts (list_any (is_at_of (made problem) block) problem.init) (is_blocked grid (rect_at block (home_corner block)))
      (all_at (block_tells (made problem) grid) grid.blocks at.0 block blocks_tell at.1)).1

  -- it is said where it is
  pub said_at : (block : Block) → Contains grid.blocks block
      → (i : ℕ) × (f : Fact) × (slice_get problem.init i ≡ Some f) × (f.name ≡ 6)
      × (first_is (made problem) block.name f.args ≡ true)
  said_at block there =
      let at = place_of grid.blocks block there in
      let any = (and_not_parts (list_any (is_at_of (made problem) block) problem.init) (is_blocked grid (rect_at block (home_corner block)))
      (all_at (block_tells (made problem) grid) grid.blocks at.0 block blocks_tell at.1)).0 in
      let found = any_found (is_at_of (made problem) block) problem.init any in (
        found.0,
        found.1,
        found.2,
        eqb-true found.1.name 6 (first_so (found.1.name == 6) (first_is (made problem) block.name found.1.args) found.3),
        second_so (found.1.name == 6) (first_is (made problem) block.name found.1.args) found.3,
      )

  apart_at : (xs : List Block) → all_apart xs ≡ true → (i j : ℕ) (a b : Block) → i < j → slice_get xs i ≡ Some a
      → slice_get xs j ≡ Some b → are_blocks_apart a b ≡ true
  apart_at [] e i j a b lt here there = absurd (cc)
  apart_at (x ∷ xs) e zero zero a b lt here there = absurd (omega (arith, lt))
  apart_at (x ∷ xs) e zero (suc j) a b lt here there =
      let same : x ≡ a = cc in
      subst (λ (z : Block). are_blocks_apart z b ≡ true) same
      (all_at (are_blocks_apart x) xs j b (first_so (list_all (are_blocks_apart x) xs) (all_apart xs) e) there)
  apart_at (x ∷ xs) e (suc i) zero a b lt here there = absurd (omega (arith, lt))
  apart_at (x ∷ xs) e (suc i) (suc j) a b lt here there =
      apart_at xs (second_so (list_all (are_blocks_apart x) xs) (all_apart xs) e) i j a b (omega (arith, lt)) here there

  other_name : (a b : Block) → are_blocks_apart a b ≡ true → a.name ≢ b.name
  other_name a b e same =
      let apart = first_so (not (bytes_eq a.name b.name)) (not (meets (rect_at a (home_corner a)) (rect_at b (home_corner b)))) e in
      let equal = (bytes_eq-Decides a.name b.name).1 same in
      let both : true ≡ false = sym apart ∙ ap not equal in absurd (cc)

  -- blocks of one name are one
  pub names_apart : (i j : ℕ) (a b : Block) → slice_get grid.blocks i ≡ Some a → slice_get grid.blocks j ≡ Some b
      → a.name ≡ b.name → i ≡ j
  names_apart i j a b here there same =
      elim (cases_order i j) [
        | inl e ↦ e
        | inr apart ↦ elim apart [
          | inl lt ↦ absurd (other_name a b (apart_at grid.blocks blocks_apart i j a b lt here there) same)
          | inr lt ↦ absurd (other_name b a (apart_at grid.blocks blocks_apart j i b a lt there here) (sym same))
        ]
      ]

  no_meeting : (a b : Block) → are_blocks_apart a b ≡ true
      → meets (rect_at a (home_corner a)) (rect_at b (home_corner b)) ≡ false
  no_meeting a b e =
      (and_not_parts (not (bytes_eq a.name b.name)) (meets (rect_at a (home_corner a)) (rect_at b (home_corner b))) e).1

  -- two blocks share no cell at first
  pub homes_apart : (i j : ℕ) (a b : Block) → i ≢ j → slice_get grid.blocks i ≡ Some a
      → slice_get grid.blocks j ≡ Some b → meets (rect_at a (home_corner a)) (rect_at b (home_corner b)) ≡ false
  homes_apart i j a b other here there =
      elim (cases_order i j) [
        | inl e ↦ absurd (other e)
        | inr apart ↦ elim apart [
          | inl lt ↦ no_meeting a b (apart_at grid.blocks blocks_apart i j a b lt here there)
          | inr lt ↦ meets_swap (rect_at a (home_corner a)) (rect_at b (home_corner b))
              ∙ no_meeting b a (apart_at grid.blocks blocks_apart j i b a lt there here)
        ]
      ]

  -- ---- facts

  -- no `reach`, `clear` or `holding` is said
  pub not_said : (i : ℕ) (f : Fact) → slice_get problem.init i ≡ Some f → (f.name ≡ 4) ⊎ ((f.name ≡ 5) ⊎ (f.name ≡ 8))
      → ⊥
  not_said i f at which =
      let tell = all_at (fact_tells (made problem) grid) problem.init i f facts_tell at in
      by f.name (are_home (made problem) grid f.args) tell which
    where
      by : (n : ℕ) (home : Bool) → Told n home → (n ≡ 4) ⊎ ((n ≡ 5) ⊎ (n ≡ 8)) → ⊥
      by n home told (inl e) = let no : Told 4 home = subst (λ m. Told m home) e told in absurd (cc)
      by n home told (inr (inl e)) = let no : Told 5 home = subst (λ m. Told m home) e told in absurd (cc)
      by n home told (inr (inr e)) = let no : Told 8 home = subst (λ m. Told m home) e told in absurd (cc)

  said_home : (i : ℕ) (f : Fact) → slice_get problem.init i ≡ Some f → (f.name ≡ 1) ⊎ (f.name ≡ 6)
      → are_home (made problem) grid f.args ≡ true
  said_home i f at which =
      let tell = all_at (fact_tells (made problem) grid) problem.init i f facts_tell at in
      by f.name (are_home (made problem) grid f.args) tell which
    where
      by : (n : ℕ) (home : Bool) → Told n home → (n ≡ 1) ⊎ (n ≡ 6) → home ≡ true
      by n home told (inl e) = subst (λ m. Told m home) e told
      by n home told (inr e) = subst (λ m. Told m home) e told

  -- ---- objects

  declared_at : (sort object : ℕ) → is_declared (made problem) sort object ≡ true
      → (d : Declared) × (slice_get problem.objects object ≡ Some d) × (list_any (λ s. s == sort) d.sorts ≡ true)
  declared_at sort object e = by (slice_get problem.objects object) refl e
    where
      by : (o : Option Declared) → slice_get problem.objects object ≡ o → list_any (λ s. s == sort) (sorts_in o) ≡ true
          → (d : Declared) × (slice_get problem.objects object ≡ Some d) × (list_any (λ s. s == sort) d.sorts ≡ true)
      by None at any = absurd (cc)
      by (Some d) at any = (d, at, any)

  in_declared : (sort first k : ℕ) (ds : List Declared) (d : Declared) → slice_get ds k ≡ Some d
      → list_any (λ s. s == sort) d.sorts ≡ true
      → Contains (declared_types grid_domain first ds) (type_fact sort (first + k))
  in_declared sort first k [] d at any = absurd (cc)
  in_declared sort first zero (x ∷ ds) d at any =
      let same : x ≡ d = cc in
      let found = any_found (λ s. s == sort) d.sorts any in
      let is : found.1 ≡ sort = eqb-true found.1 sort found.3 in
      let there : Contains d.sorts sort = subst (Contains d.sorts) is (member_at d.sorts found.0 found.1 found.2) in
      let listed : Contains (x.sorts ++ 0 ∷ []) sort =
      Contains-append_left x.sorts (0 ∷ []) sort (subst (λ (z : Declared). Contains z.sorts sort) (sym same) there) in
      let typed : Contains (type_facts grid_domain sort first) (type_fact sort first) = contains_here (type_fact sort first) _ in
      let zero_more : first ≡ first + 0 = omega arith in
      Contains-append_left (flat_map (λ s. type_facts grid_domain s first) (x.sorts ++ 0 ∷ [])) (declared_types grid_domain (first + 1) ds)
      (type_fact sort (first + 0))
      (subst (λ n. Contains (flat_map (λ s. type_facts grid_domain s first) (x.sorts ++ 0 ∷ [])) (type_fact sort n)) zero_more
      (in_flat_map (λ s. type_facts grid_domain s first) (x.sorts ++ 0 ∷ []) sort (type_fact sort first) listed typed))
  in_declared sort first (suc k) (x ∷ ds) d at any =
      let more : (first + 1) + k ≡ first + suc k = omega arith in
      Contains-append_right (flat_map (λ s. type_facts grid_domain s first) (x.sorts ++ 0 ∷ [])) (declared_types grid_domain (first + 1) ds)
      (type_fact sort (first + suc k))
      (subst (λ n. Contains (declared_types grid_domain (first + 1) ds) (type_fact sort n)) more
      (in_declared sort (first + 1) k ds d at any))

  module _ (entries : List Entry) where
    abbrev pub word : ℕ → List ℕ
    word object = name_at (names_of (made problem) entries) object

    -- a declared object has its type
    typed : (sort object : ℕ) → is_declared (made problem) sort object ≡ true
        → has_type (known_of (made problem) entries) object sort ≡ true
    typed sort object e =
        let at = declared_at sort object e in
        let listed = declared_types grid_domain 0 problem.objects ++ filter (is_static grid_domain) problem.init in
        let none : 0 + object ≡ object = omega arith in
        let in_types : Contains (declared_types grid_domain 0 problem.objects) (type_fact sort object) =
        subst (λ n. Contains (declared_types grid_domain 0 problem.objects) (type_fact sort n)) none
        (in_declared sort 0 object problem.objects at.0 at.1 at.2) in
        let in_all : Contains listed (type_fact sort object) =
        Contains-append_left (declared_types grid_domain 0 problem.objects) (filter (is_static grid_domain) problem.init)
        (type_fact sort object) in_types in
        let first : is_fact (initial_facts (made problem)) (type_fact sort object) ≡ true =
        (fact_member (initial_facts (made problem)) (type_fact sort object)).1
        (((with_facts-is [] listed).members (type_fact sort object)).1 in_all) in
        facts_kept (initial_facts (made problem)) (flat_map (certified (made problem) entries) entries) (type_fact sort object) first

    -- a declared object has its declared name
    named : (sort object : ℕ) → is_declared (made problem) sort object ≡ true
        → word object ≡ name_at (declared_names (made problem)) object
    named sort object e =
        let at = declared_at sort object e in
        let declared : slice_get (declared_names (made problem)) object ≡ Some at.0.name =
        slice_get-map (λ (d : Declared). d.name) problem.objects object ∙ ap (option_map (λ (d : Declared). d.name)) at.1 in
        let front = with_names-front (declared_names (made problem)) (flat_map objects_in entries) in
        let later : slice_get (names_of (made problem) entries) object ≡ Some at.0.name =
        ap (λ names. slice_get names object) front.1
        ∙ get_append (declared_names (made problem)) front.0 object at.0.name declared in
        ap (λ (o : Option (List ℕ)). unwrap_or o []) (later ∙ sym declared)

    -- A block and the word for its own first corner, with their types.
    pub record Home (b p : ℕ) : Type 0 where
      pub block : Block
      pub block_is : block_named grid (word b) ≡ Some block
      pub pose : pose_of grid (word p) ≡ Some (home_corner block)
      pub spelled : word p ≡ codes "home-" ++ word b
      pub typed_block : has_type (known_of (made problem) entries) b 1 ≡ true
      pub typed_pose : has_type (known_of (made problem) entries) p 3 ≡ true
      pub first : word b ≡ name_at (declared_names (made problem)) b

    home_word : (name : List ℕ) → pose_of grid (codes "home-" ++ name) ≡ home_of (block_named grid name)
    unfolding pose_of
    home_word name = refl

    home_of_args : (b p : ℕ) → are_home (made problem) grid (b ∷ p ∷ []) ≡ true → Home b p
    home_of_args b p e =
        let declared = declared_names (made problem) in
        let spelled = bytes_eq (name_at declared p) (codes "home-" ++ name_at declared b) in
        let is_a_block = is_block (made problem) grid b in
        let is_b = is_declared (made problem) 1 b in
        let is_p = is_declared (made problem) 3 p in
        let three = first_so (is_a_block && spelled && is_b) is_p e in
        let two = first_so (is_a_block && spelled) is_b three in
        let b_declared = second_so (is_a_block && spelled) is_b three in
        let p_declared = second_so (is_a_block && spelled && is_b) is_p e in
        let found = is_there (block_named grid (name_at declared b)) (first_so is_a_block spelled two) in
        let p_is : name_at declared p ≡ codes "home-" ++ name_at declared b =
        (bytes_eq-Decides (name_at declared p) (codes "home-" ++ name_at declared b)).0 (second_so is_a_block spelled two) in
        let b_word = named 1 b b_declared in
        let p_word = named 3 p p_declared in
        let block_is : block_named grid (word b) ≡ Some found.0 = ap (block_named grid) b_word ∙ found.1 in
        let p_spelled : word p ≡ codes "home-" ++ word b = p_word ∙ p_is ∙ ap (λ w. codes "home-" ++ w) (sym b_word) in
        record {
          block = found.0;
          block_is = block_is;
          pose = ap (pose_of grid) p_spelled ∙ home_word (word b) ∙ ap home_of block_is;
          spelled = p_spelled;
          typed_block = typed 1 b b_declared;
          typed_pose = typed 3 p p_declared;
          first = b_word;
        }

    -- `pose` and `at` are of a block and its own first corner
    pub home_said : (i : ℕ) (f : Fact) → slice_get problem.init i ≡ Some f → (f.name ≡ 1) ⊎ (f.name ≡ 6)
        → (b : ℕ) × (p : ℕ) × (f.args ≡ b ∷ p ∷ []) × Home b p
    home_said i f at which = by f.args (said_home i f at which)
      where
        by : (args : List ℕ) → are_home (made problem) grid args ≡ true
            → (b : ℕ) × (p : ℕ) × (args ≡ b ∷ p ∷ []) × Home b p
        by [] e = absurd (cc)
        by (b ∷ []) e = absurd (cc)
        by (b ∷ p ∷ []) e = (b, p, refl, home_of_args b p e)
        by (b ∷ p ∷ o ∷ more) e = absurd (cc)

  -- ---- the first state

  fluent_is : (f : Fact) (kind : Kind) (role : Role) (x : Atom) → fluent_by f kind role ≡ Some x
      → (f.name ≡ x.pred) × (f.args ≡ x.args)
  fluent_is f Predicate Fluent x e = (λ i. pred_of (e i), λ i. args_of (e i))
    where
      pred_of : Option Atom → ℕ
      pred_of None = f.name
      pred_of (Some a) = a.pred

      args_of : Option Atom → List ℕ
      args_of None = f.args
      args_of (Some a) = a.args
  fluent_is f Predicate Static x e = absurd (cc)
  fluent_is f Predicate Derived x e = absurd (cc)
  fluent_is f Sort role x e = absurd (cc)

  -- an atom of the first state is said
  pub state_said : (x : Atom) → contains (initial_state (made problem)) x ≡ true
      → (i : ℕ) × (f : Fact) × (slice_get problem.init i ≡ Some f) × (f.name ≡ x.pred) × (f.args ≡ x.args)
  state_said x e =
      let any = sym (contains-from_list (filter_map (fluent_atom grid_domain) problem.init) x) ∙ e in
      let found = any_from (fluent_atom grid_domain) (eq_by_cmp atom_cmp x) problem.init any in
      let same : x ≡ found.2 = atom_is x found.2 found.5 in
      let is = fluent_is found.1 found.1.kind (role_of grid_domain found.1.name) found.2 found.4 in
      (found.0, found.1, found.3, is.0 ∙ ap (λ (a : Atom). a.pred) (sym same), is.1 ∙ ap (λ (a : Atom). a.args) (sym same))

  at_fluent : role_of grid_domain 6 ≡ Fluent
  unfolding role_of
  at_fluent = refl

  predicate_so : (kind : Kind) → is_predicate kind ≡ true → kind ≡ Predicate
  predicate_so Predicate e = refl
  predicate_so Sort e = absurd (cc)

  -- an `at` that is said is in the first state
  pub at_there : IsFit (made problem) → (i : ℕ) (f : Fact) → slice_get problem.init i ≡ Some f → f.name ≡ 6
      → contains (initial_state (made problem)) (record { pred = 6; args = f.args }) ≡ true
  at_there fit i f at six =
      let x : Atom = record { pred = 6; args = f.args } in
      let each = all_at (is_fit_fact grid_domain (length problem.objects)) problem.init i f
      (second_so (is_short problem.init) (list_all (is_fit_fact grid_domain (length problem.objects)) problem.init) fit.problem.init) at in
      let a = is_predicate f.kind in
      let b = has_arity grid_domain.predicates f.name (length f.args) in
      let c = list_all (λ o. nat_lt o (length problem.objects)) f.args in
      let kind = predicate_so f.kind (first_so a b (first_so (a && b) c (first_so (a && b && c) (not (is_derived_role (role_of grid_domain f.name))) each))) in
      let fluent : fluent_atom grid_domain f ≡ Some x =
      ap (λ k. fluent_by f k (role_of grid_domain f.name)) kind
      ∙ ap (λ n. fluent_by f Predicate (role_of grid_domain n)) six
      ∙ ap (fluent_by f Predicate) at_fluent
      ∙ ap (λ n. Some (record { pred = n; args = f.args })) six in
      contains-from_list (filter_map (fluent_atom grid_domain) problem.init) x
      ∙ any_mapped (fluent_atom grid_domain) (eq_by_cmp atom_cmp x) problem.init i f x at fluent (atom_itself x)
