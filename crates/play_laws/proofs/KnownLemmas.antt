-- What is known after a transcript whose answers are the grid's.
use Rattle.gen_lines.specs.Reply.{yields}
use Rattle.grid_play.specs.Replies.{reply_of_answer}
use Rattle.grid_play.specs.Worlds.{home_corner}
use Rattle.grid_text.specs.Grids.{GridFile, area}
use Rattle.grid_text.specs.Rects.{is_within}
use Rattle.grid_text.specs.declared.grid.Block.{Block}
use Rattle.grid_text.specs.declared.rect.Rect.{Rect}
use Rattle.grid_world.proofs.WordsLemmas.{pose_words_are_spelled}
use Rattle.grid_world.specs.Answers.{answer_to, apart, is_blocked, nth, poses_in, reached}
use Rattle.grid_world.specs.Asks.{ask_to}
use Rattle.grid_world.specs.Laws.{IsCornerText}
use Rattle.grid_world.specs.Words.{block_named, pose_of, posed, rect_at, region_named, served_stream, side_of}
use Rattle.grid_world.specs.declared.words.Corner.{Corner}
use Rattle.lemmas.proofs.Ascending.{contains_cases, contains_here, contains_none}
use Rattle.lemmas.proofs.Members.{member_at}
use Rattle.lemmas.proofs.Options.{same_some}
use Rattle.lemmas.specs.Lists.{AreDistinct}
use Rattle.play_laws.proofs.FirstLemmas.{Home, corner_small, free_at_home, home_said, made, not_said}
use Rattle.play_laws.proofs.MeaningLemmas.{Apart, Lies, apart_some, find_member, lies, one_in, reached_some}
use Rattle.play_laws.proofs.RequestLemmas.{Request, replied, request_of}
use Rattle.play_laws.proofs.StreamLemmas.{clear_reply, four_of, place_reply, reach_reply, stream_cases, three_of, two_of}
use Rattle.play_laws.specs.GridTasks.{clear_stream, grasp_stream, grid_domain, place_stream, reach_stream}
use Rattle.play_laws.specs.Problems.{AreTrueYields, tells_grid}
use Rattle.std.proofs.Common.{◌≡◌, ℕ, suc, ◌+◌, ◌⊎◌, inl, inr, true, false, List, [], ◌∷◌, ◌++◌, codes, filter, length, map, refl, sym, subst, ap, ◌∙◌, arith, Option, Some, Contains, All, option_to_list, slice_get, eq-eqb, unwrap_or}
use Rattle.std.proofs.lemmas.List.Elements.{All-append, All-cons, All-contains, All-filter, All-map, All-nil}
use Rattle.std.specs.Cmp.{first_so}
use Rattle.std.specs.Fmt.{decimal}
use Rattle.std.specs.List.{flat_map, list_all}
use Rattle.std.specs.Option.{option_and_then, option_map, option_map_or}
use Rattle.task_model.proofs.KnownLemmas.{fact_member}
use Rattle.task_model.specs.Initial.{declared_names, declared_types, initial_facts, is_static, sorts_with, type_facts}
use Rattle.task_model.specs.Known.{atom_fact, is_fact, type_fact}
use Rattle.task_model.specs.Streams.{certified_by, fact_of, name_at, output_types}
use Rattle.task_model.specs.Truth.{slots_of}
use Rattle.task_model.specs.declared.domain.Declared.{Declared}
use Rattle.task_model.specs.declared.domain.Domain.{Domain}
use Rattle.task_model.specs.declared.fact.Fact.{Fact}
use Rattle.task_model.specs.declared.fact.Kind.TheVariants.{Predicate}
use Rattle.task_model.specs.declared.stream.Stream.{Stream}
use Rattle.task_model.specs.declared.task.Problem.{Problem}
use Rattle.transcript_model.proofs.LegalPrefixLemmas.{answered, values_named}
use Rattle.transcript_model.proofs.NamedObjectLemmas.{all_joined, with_facts-all}
use Rattle.transcript_model.proofs.NamesLemmas.{place_at}
use Rattle.transcript_model.specs.Legal.{IsLegal}
use Rattle.transcript_model.specs.Names.{generated, places_of}
use Rattle.transcript_model.specs.Transcript.{Asked, certified, known_of, names_of, tuple_facts, tuples_in, yield_facts}
use Rattle.transcript_model.specs.declared.entry.Entry.TheVariants as entry
use Rattle.transcript_model.specs.declared.entry.Entry.{Entry}

-- ---- what facts tell of the grid

module _ (problem : Problem) (grid : GridFile) (entries : List Entry) where
  abbrev pub name : ℕ → List ℕ
  name object = name_at (names_of (made problem) entries) object

  abbrev pub facts : List Fact
  facts = (known_of (made problem) entries).facts

  -- the block at the pose lies in no obstacle
  abbrev pub IsFree : ℕ → ℕ → Type 0
  IsFree b p =
      (block : Block) (corner : Corner) → block_named grid (name b) ≡ Some block → pose_of grid (name p) ≡ Some corner
      → is_blocked grid (rect_at block corner) ≡ false

  -- the block at the pose lies in the grid, and that it is a pose of the block is known
  pub record IsReached (b p : ℕ) : Type 0 where
    pub cells : Rect
    pub are : posed grid (name b) (name p) ≡ Some cells
    pub within : is_within cells (area grid) ≡ true
    pub pose : is_fact facts (atom_fact 1 (b ∷ p ∷ [])) ≡ true

  abbrev pub PoseTells : List ℕ → Type 0
  PoseTells [] = Unit {0}
  PoseTells (b ∷ []) = Unit {0}
  PoseTells (b ∷ p ∷ []) = IsFree b p
  PoseTells (b ∷ p ∷ o ∷ more) = Unit {0}

  abbrev pub ReachTells : List ℕ → Type 0
  ReachTells [] = Unit {0}
  ReachTells (b ∷ []) = Unit {0}
  ReachTells (b ∷ p ∷ more) = IsReached b p

  abbrev pub ClearTells : List ℕ → Type 0
  ClearTells [] = Unit {0}
  ClearTells (b ∷ []) = Unit {0}
  ClearTells (b ∷ p ∷ []) = Unit {0}
  ClearTells (b ∷ p ∷ o ∷ []) = Unit {0}
  ClearTells (b ∷ p ∷ o ∷ q ∷ more) = Apart (posed grid (name b) (name p)) (posed grid (name o) (name q))

  pub record Tells (f : Fact) : Type 0 where
    pub pose : f.kind ≡ Predicate → f.name ≡ 1 → PoseTells f.args
    pub reach : f.kind ≡ Predicate → f.name ≡ 4 → ReachTells f.args
    pub clear : f.kind ≡ Predicate → f.name ≡ 5 → ClearTells f.args

  -- ---- facts about types

  sort_tells : (sort object : ℕ) → Tells (type_fact sort object)
  sort_tells sort object = record {
    pose = λ kind is. absurd (cc);
    reach = λ kind is. absurd (cc);
    clear = λ kind is. absurd (cc);
  }

  types_tell : (domain : Domain) (sort object : ℕ) → All Tells (type_facts domain sort object)
  types_tell domain sort object =
      All-map Tells (λ s. type_fact s object) (sorts_with domain sort)
      (λ k d lt. sort_tells _ object)

  outputs_tell : (domain : Domain) (sorts objects : List ℕ) → All Tells (output_types domain sorts objects)
  outputs_tell domain [] objects = All-nil Tells
  outputs_tell domain (sort ∷ sorts) [] = All-nil Tells
  outputs_tell domain (sort ∷ sorts) (object ∷ objects) =
      All-append Tells (type_facts domain sort object) (output_types domain sorts objects)
      (types_tell domain sort object) (outputs_tell domain sorts objects)

  declared_tell : (domain : Domain) (first : ℕ) (ds : List Declared) → All Tells (declared_types domain first ds)
  declared_tell domain first [] = All-nil Tells
  declared_tell domain first (d ∷ ds) =
      All-append Tells (flat_map (λ sort. type_facts domain sort first) (d.sorts ++ 0 ∷ []))
      (declared_types domain (first + 1) ds)
      (all_joined Tells (λ sort. type_facts domain sort first) (d.sorts ++ 0 ∷ []) (λ k sort at. types_tell domain sort first))
      (declared_tell domain (first + 1) ds)

  -- ---- atoms

  other_tells : (pred : ℕ) (args : List ℕ) → (pred ≡ 2) ⊎ (pred ≡ 3) → Tells (atom_fact pred args)
  other_tells pred args which = record {
    pose = λ kind is. absurd (no pred 1 which is (λ e. omega (arith, e)) (λ e. omega (arith, e)));
    reach = λ kind is. absurd (no pred 4 which is (λ e. omega (arith, e)) (λ e. omega (arith, e)));
    clear = λ kind is. absurd (no pred 5 which is (λ e. omega (arith, e)) (λ e. omega (arith, e)));
  }
    where
      no : (p n : ℕ) → (p ≡ 2) ⊎ (p ≡ 3) → p ≡ n → (2 ≡ n → ⊥) → (3 ≡ n → ⊥) → ⊥
      no p n (inl e) is two three = two (sym e ∙ is)
      no p n (inr e) is two three = three (sym e ∙ is)

  pose_tells : (args : List ℕ) → PoseTells args → Tells (atom_fact 1 args)
  pose_tells args told = record {
    pose = λ kind is. told;
    reach = λ kind is. absurd (omega (arith, is));
    clear = λ kind is. absurd (omega (arith, is));
  }

  place_told : (b r p : ℕ) → IsFree b p → All Tells (map (fact_of (slots_of (b ∷ r ∷ p ∷ []))) place_stream.certified)
  place_told b r p free =
      All-cons Tells (atom_fact 1 (b ∷ p ∷ [])) (atom_fact 2 (b ∷ p ∷ r ∷ []) ∷ []) (pose_tells (b ∷ p ∷ []) free)
      (All-cons Tells (atom_fact 2 (b ∷ p ∷ r ∷ [])) [] (other_tells 2 (b ∷ p ∷ r ∷ []) (inl refl)) (All-nil Tells))

  reach_tells : (args : List ℕ) → ReachTells args → Tells (atom_fact 4 args)
  reach_tells args told = record {
    pose = λ kind is. absurd (omega (arith, is));
    reach = λ kind is. told;
    clear = λ kind is. absurd (omega (arith, is));
  }

  clear_tells : (args : List ℕ) → ClearTells args → Tells (atom_fact 5 args)
  clear_tells args told = record {
    pose = λ kind is. absurd (omega (arith, is));
    reach = λ kind is. absurd (omega (arith, is));
    clear = λ kind is. told;
  }

  -- ---- what is known at first

  module _ (tells : tells_grid (made problem) grid ≡ true) where
    first_tells : (i : ℕ) (f : Fact) → slice_get problem.init i ≡ Some f → Tells f
    first_tells i f at = record {
      pose = λ kind is.
          let home = home_said problem grid tells entries i f at (inl is) in
          subst PoseTells (sym home.2) (free home.0 home.1 home.3);
      reach = λ kind is. absurd (not_said problem grid tells i f at (inl is));
      clear = λ kind is. absurd (not_said problem grid tells i f at (inr (inl is)));
    }
      where
        free : (b p : ℕ) → Home problem grid tells entries b p → IsFree b p
        free b p home block corner named placed =
            let blocks : home.block ≡ block = same_some _ _ _ home.block_is named in
            let corners : home_corner home.block ≡ corner = same_some _ _ _ home.pose placed in
            let there : Contains grid.blocks home.block = find_member _ grid.blocks home.block home.block_is in
            let at_home = free_at_home problem grid tells home.block there in
            ap (λ c. is_blocked grid (rect_at block c)) (sym corners)
            ∙ ap (λ (b : Block). is_blocked grid (rect_at b (home_corner home.block))) (sym blocks)
            ∙ at_home

    all_first : All Tells (initial_facts (made problem))
    all_first =
        with_facts-all Tells [] (declared_types grid_domain 0 problem.objects ++ filter (is_static grid_domain) problem.init)
        (All-nil Tells)
        (All-append Tells (declared_types grid_domain 0 problem.objects) (filter (is_static grid_domain) problem.init)
        (declared_tell grid_domain 0 problem.objects)
        (All-filter (is_static grid_domain) Tells problem.init (by_places problem.init (λ i f at. first_tells i f at))))
      where
        by_places : (fs : List Fact) → ((i : ℕ) (f : Fact) → slice_get fs i ≡ Some f → Tells f) → All Tells fs
        by_places [] each = All-nil Tells
        by_places (f ∷ fs) each = All-cons Tells f fs (each 0 f refl) (by_places fs (λ i g at. each (suc i) g at))

    -- ---- what yields certify

    module _ (version : ℕ) (distinct : AreDistinct (declared_names (made problem)))
        (legal : IsLegal version (made problem) entries) (yielded : AreTrueYields grid entries) where
      abbrev outputs_of : List (List ℕ) → List ℕ
      outputs_of tuple = unwrap_or (places_of (names_of (made problem) entries) (map generated tuple)) []

      -- the facts that a stream certifies with its inputs and outputs tell, if its own atoms do
      stream_tells : (s : Stream) (inputs outputs : List ℕ)
          → All Tells (map (fact_of (slots_of (inputs ++ outputs))) s.certified)
          → All Tells (certified_by grid_domain s inputs outputs)
      stream_tells s inputs outputs told =
          All-append Tells (output_types grid_domain s.outputs outputs) (map (fact_of (slots_of (inputs ++ outputs))) s.certified)
          (outputs_tell grid_domain s.outputs outputs) told

      module _ (k n tuples : ℕ) (values : List (List ℕ)) (a : Asked)
          (at : slice_get entries k ≡ Some (entry.Got n tuples values))
          (request : Request (made problem) entries n a) where
        abbrev Goal : Type 0
        Goal = All Tells (yield_facts (made problem) (names_of (made problem) entries) a tuples values)

        abbrev said : Stream → Type 0
        said s =
            reply_of_answer (answer_to grid (ask_to request.turn (map name a.instance.inputs) (served_stream s.name)))
            ≡ yields tuples values

        -- for each tuple
        by_tuples : ((tuple : List (List ℕ)) → Contains (tuples_in (length a.stream.outputs) tuples values) tuple
            → All Tells (map (fact_of (slots_of (a.instance.inputs ++ outputs_of tuple))) a.stream.certified)) → Goal
        by_tuples each =
            all_joined Tells (tuple_facts (made problem) (names_of (made problem) entries) a)
            (tuples_in (length a.stream.outputs) tuples values)
            (λ i tuple there. stream_tells a.stream a.instance.inputs (outputs_of tuple)
            (each tuple (member_at (tuples_in (length a.stream.outputs) tuples values) i tuple there)))

        by_reach : a.stream ≡ reach_stream → said a.stream → Goal
        by_reach is reply =
            let inputs = three_of a.instance.inputs (request.many ∙ ap (λ (s : Stream). length s.inputs) is) in
            let b = inputs.0 in
            let p = inputs.1 in
            let g = inputs.2 in
            let answer : reply_of_answer (nth request.turn (option_to_list (reached grid (posed grid (name b) (name p)) (side_of (name g))))) ≡ yields tuples values =
            ap reply_of_answer (sym (reach_reply grid request.turn (name b) (name p) (name g)))
            ∙ ap (λ (s : Stream). reply_of_answer (answer_to grid (ask_to request.turn (name b ∷ name p ∷ name g ∷ []) (served_stream s.name)))) (sym is)
            ∙ ap (λ os. reply_of_answer (answer_to grid (ask_to request.turn (map name os) (served_stream a.stream.name)))) (sym inputs.3)
            ∙ reply in
            let one = one_in (reached grid (posed grid (name b) (name p)) (side_of (name g))) request.turn tuples values answer in
            let cells = reached_some grid (posed grid (name b) (name p)) (side_of (name g)) one.0 one.1 in
            let asked_of : list_all (λ q. is_fact facts (fact_of (slots_of (b ∷ p ∷ g ∷ [])) q)) reach_stream.domain ≡ true =
            subst (λ os. list_all (λ q. is_fact facts (fact_of (slots_of os) q)) reach_stream.domain ≡ true) inputs.3
            (subst (λ (s : Stream). list_all (λ q. is_fact facts (fact_of (slots_of a.instance.inputs) q)) s.domain ≡ true) is request.known) in
            let posed_at : is_fact facts (atom_fact 1 (b ∷ p ∷ [])) ≡ true =
            first_so (is_fact facts (atom_fact 1 (b ∷ p ∷ []))) _ asked_of in
            let reached : IsReached b p = record { cells = cells.0; are = cells.1; within = cells.2; pose = posed_at } in
            by_tuples (λ tuple there.
            subst (λ (s : Stream). All Tells (map (fact_of (slots_of (a.instance.inputs ++ outputs_of tuple))) s.certified)) (sym is)
            (subst (λ os. All Tells (map (fact_of (slots_of (os ++ outputs_of tuple))) reach_stream.certified)) (sym inputs.3)
            (All-cons Tells _ [] (reach_tells _ reached) (All-nil Tells))))

        by_clear : a.stream ≡ clear_stream → said a.stream → Goal
        by_clear is reply =
            let inputs = four_of a.instance.inputs (request.many ∙ ap (λ (s : Stream). length s.inputs) is) in
            let b = inputs.0 in
            let p = inputs.1 in
            let o = inputs.2 in
            let q = inputs.3 in
            let answer : reply_of_answer (nth request.turn (option_to_list (apart grid (posed grid (name b) (name p)) (posed grid (name o) (name q))))) ≡ yields tuples values =
            ap reply_of_answer (sym (clear_reply grid request.turn (name b) (name p) (name o) (name q)))
            ∙ ap (λ (s : Stream). reply_of_answer (answer_to grid (ask_to request.turn (name b ∷ name p ∷ name o ∷ name q ∷ []) (served_stream s.name)))) (sym is)
            ∙ ap (λ os. reply_of_answer (answer_to grid (ask_to request.turn (map name os) (served_stream a.stream.name)))) (sym inputs.4)
            ∙ reply in
            let one = one_in (apart grid (posed grid (name b) (name p)) (posed grid (name o) (name q))) request.turn tuples values answer in
            let apart = apart_some grid (posed grid (name b) (name p)) (posed grid (name o) (name q)) one.0 one.1 in
            by_tuples (λ tuple there.
            subst (λ (s : Stream). All Tells (map (fact_of (slots_of (a.instance.inputs ++ outputs_of tuple))) s.certified)) (sym is)
            (subst (λ os. All Tells (map (fact_of (slots_of (os ++ outputs_of tuple))) clear_stream.certified)) (sym inputs.4)
            (All-cons Tells _ [] (clear_tells _ apart) (All-nil Tells))))

        by_grasp : a.stream ≡ grasp_stream → Goal
        by_grasp is =
            by_tuples (λ tuple there.
            subst (λ (s : Stream). All Tells (map (fact_of (slots_of (a.instance.inputs ++ outputs_of tuple))) s.certified)) (sym is)
            (All-cons Tells _ [] (other_tells 3 _ (inr refl)) (All-nil Tells)))

        -- a pose that came is a corner at which the block lies in no obstacle
        came_free : (b k : ℕ) → (is : Lies grid (name b) tuples values)
            → name k ≡ generated (decimal is.corner.x ++ codes "," ++ decimal is.corner.y) → IsFree b k
        came_free b k is spelled block corner named placed =
            let small = corner_small problem grid tells is.region is.corner.x is.corner.y is.block.w is.block.h is.there is.within in
            let text : IsCornerText (decimal is.corner.x ++ codes "," ++ decimal is.corner.y) is.corner =
            record { is = refl; x = omega (arith, small.0); y = omega (arith, small.1) } in
            let pose : pose_of grid (name k) ≡ Some is.corner =
            ap (pose_of grid) spelled
            ∙ (pose_words_are_spelled grid (decimal is.corner.x ++ codes "," ++ decimal is.corner.y) is.corner).1 text in
            let corners : is.corner ≡ corner = same_some _ _ _ pose placed in
            let blocks : is.block ≡ block = same_some _ _ _ is.named named in
            ap (λ c. is_blocked grid (rect_at block c)) (sym corners)
            ∙ ap (λ (x : Block). is_blocked grid (rect_at x is.corner)) (sym blocks)
            ∙ is.free

        by_place : a.stream ≡ place_stream → said a.stream → Goal
        by_place is reply =
            let inputs = two_of a.instance.inputs (request.many ∙ ap (λ (s : Stream). length s.inputs) is) in
            let b = inputs.0 in
            let r = inputs.1 in
            let answer : reply_of_answer (nth request.turn (poses_in grid (block_named grid (name b)) (region_named grid (name r)))) ≡ yields tuples values =
            ap reply_of_answer (sym (place_reply grid request.turn (name b) (name r)))
            ∙ ap (λ (s : Stream). reply_of_answer (answer_to grid (ask_to request.turn (name b ∷ name r ∷ []) (served_stream s.name)))) (sym is)
            ∙ ap (λ os. reply_of_answer (answer_to grid (ask_to request.turn (map name os) (served_stream a.stream.name)))) (sym inputs.2)
            ∙ reply in
            let is_at = lies grid (name b) (name r) request.turn tuples values answer in
            let value = decimal is_at.corner.x ++ codes "," ++ decimal is_at.corner.y in
            let named = values_named (made problem) entries k n tuples values distinct at value
            (subst (λ vs. Contains vs value) (sym is_at.said) (contains_here value [])) in
            let spelled : name named.0 ≡ generated value =
            ap (λ (o : Option (List ℕ)). unwrap_or o []) (place_at (names_of (made problem) entries) (generated value) named.0 named.1) in
            let free : IsFree b named.0 = came_free b named.0 is_at spelled in
            let outputs : outputs_of (value ∷ []) ≡ named.0 ∷ [] =
            ap (λ o. unwrap_or (option_and_then (λ object. option_map (λ objects. object ∷ objects) (Some [])) o) []) named.1 in
            let width : length a.stream.outputs ≡ 1 = ap (λ (s : Stream). length s.outputs) is in
            let cut : tuples_in (length a.stream.outputs) tuples values ≡ (value ∷ []) ∷ [] =
            ap (λ w. tuples_in w tuples values) width ∙ ap (λ t. tuples_in 1 t values) is_at.one ∙ ap (tuples_in 1 1) is_at.said in
            let told = place_told b r named.0 free in
            by_tuples (λ tuple there.
            let one : tuple ≡ value ∷ [] = only (value ∷ []) tuple (subst (λ ts. Contains ts tuple) cut there) in
            subst (λ t. All Tells (map (fact_of (slots_of (a.instance.inputs ++ outputs_of t))) a.stream.certified)) (sym one)
            (subst (λ (s : Stream). All Tells (map (fact_of (slots_of (a.instance.inputs ++ outputs_of (value ∷ [])))) s.certified)) (sym is)
            (subst (λ os. All Tells (map (fact_of (slots_of (os ++ outputs_of (value ∷ [])))) place_stream.certified)) (sym inputs.2)
            (subst (λ os. All Tells (map (fact_of (slots_of ((b ∷ r ∷ []) ++ os))) place_stream.certified)) (sym outputs) told))))
          where
            only : (x y : List (List ℕ)) → Contains (x ∷ []) y → y ≡ x
            only x y c = elim (contains_cases x [] y c) [
              | inl e ↦ sym e
              | inr none ↦ absurd (contains_none y none)
            ]

        got_tells : Goal
        got_tells =
            let reply = replied version (made problem) entries distinct legal grid yielded n tuples k values a at request in
            elim (stream_cases a.instance.stream a.stream request.streamed) [
              | inl place ↦ by_place place reply
              | inr others ↦ elim others [
                | inl grasp ↦ by_grasp grasp
                | inr tests ↦ elim tests [ inl reach ↦ by_reach reach reply | inr clear ↦ by_clear clear reply ]
              ]
            ]

      certified_tells : (k : ℕ) (e : Entry) → slice_get entries k ≡ Some e → All Tells (certified (made problem) entries e)
      certified_tells k (entry.Got n tuples values) at =
          let a = answered version (made problem) entries k n (entry.Got n tuples values) legal at (eq-eqb n n refl) in
          let request = request_of version (made problem) entries distinct legal n a.0 a.1 in
          let told = got_tells k n tuples values a.0 at request in
          subst (λ o. All Tells (option_map_or (λ x. yield_facts (made problem) (names_of (made problem) entries) x tuples values) o [])) (sym a.1) told
      certified_tells k e at = All-nil Tells

      -- all that is known tells of the grid
      pub all_tell : All Tells facts
      all_tell =
          with_facts-all Tells (initial_facts (made problem)) (flat_map (certified (made problem) entries) entries) all_first
          (all_joined Tells (certified (made problem) entries) entries certified_tells)

      known_tells : (f : Fact) → is_fact facts f ≡ true → Tells f
      known_tells f e = All-contains Tells facts f all_tell ((fact_member facts f).0 e)

      pub reach_known : (b p g c : ℕ) → is_fact facts (atom_fact 4 (b ∷ p ∷ g ∷ c ∷ [])) ≡ true → IsReached b p
      reach_known b p g c e = (known_tells (atom_fact 4 (b ∷ p ∷ g ∷ c ∷ [])) e).reach refl refl

      pub pose_known : (b p : ℕ) → is_fact facts (atom_fact 1 (b ∷ p ∷ [])) ≡ true → IsFree b p
      pose_known b p e = (known_tells (atom_fact 1 (b ∷ p ∷ [])) e).pose refl refl

      pub clear_known : (b p o q : ℕ) → is_fact facts (atom_fact 5 (b ∷ p ∷ o ∷ q ∷ [])) ≡ true
          → Apart (posed grid (name b) (name p)) (posed grid (name o) (name q))
      clear_known b p o q e = (known_tells (atom_fact 5 (b ∷ p ∷ o ∷ q ∷ [])) e).clear refl refl
