-- The body with copies by number is by name the one with copies by name.
use Rattle.std.proofs.Common.{◌≡◌, ℕ, zero, suc, ◌+◌, ◌*◌, ◌<◌, ◌≤◌, Bool, true, false, List, [], ◌∷◌, ◌++◌, length, map, Option, Some, None, refl, sym, ap, ap₂, ◌∙◌, subst, arith, ltb-true}
use Rattle.std.specs.Prelude.{if◌then◌else◌, is_some, slice_get, Contains}
use Rattle.std.specs.Option.{option_map}
use Rattle.lemmas.proofs.Lists.{map_append, got_short, contains_here, contains_there}
use Rattle.lemmas.proofs.Numbers.{next_is}
use Rattle.lemmas.proofs.Options.{none_some, some_same}
use Rattle.insn_set.specs.Flow.{targets_of}
use Rattle.insn_set.specs.declared.ops.Slot.{Slot}
use Rattle.insn_set.specs.declared.ops.Slot.TheVariants as slot
use Rattle.insn_set.specs.declared.form.Insn.{Insn}
use Rattle.insn_set.specs.declared.form.Insn.TheVariants as insn
use Rattle.program_model.specs.OperandRules.{registers_fit}
use Rattle.program_model.specs.declared.body.Body.{Body}
use Rattle.program_model.specs.declared.body.Handler.{Handler}
use Rattle.program_model.specs.declared.body.Region.{Region}
use Rattle.program_model.specs.declared.program.Method.{Method}
use Rattle.program_model.specs.declared.program.Program.{Program}
use Rattle.dalvik_defs.specs.Naming.{form_of, handler_of, region_of, body_of, named}
use Rattle.dalvik_defs.specs.declared.names.MethodKey.{MethodKey}
use Rattle.dalvik_defs.specs.declared.forms.Form.{Form}
use Rattle.dalvik_defs.specs.declared.forms.Form.TheVariants as form
use Rattle.dalvik_defs.specs.declared.program.NamedBody.{NamedBody}
use Rattle.dalvik_defs.specs.declared.program.NamedHandler.{NamedHandler}
use Rattle.dalvik_defs.specs.declared.program.NamedMethod.{NamedMethod}
use Rattle.dalvik_defs.specs.declared.program.NamedRegion.{NamedRegion}
use Rattle.pass_defs.specs.Remade.{remade, retargeted}
use Rattle.pass_defs.specs.Thinned.{insn_retargeted, handler_moved, region_moved}
use Rattle.pass_defs.specs.Walks.{form_at}
use Rattle.pass_defs.specs.Inlined as by_name
use Rattle.splice.specs.declared.callee.Callee.{Callee}
use Rattle.splice.specs.Callees.{chosen_at, Taken, taken_by, is_dropped, greatest, args_of}
use Rattle.splice.specs.Moves.{moves_of}
use Rattle.splice.specs.Places.{places_of, inner_places}
use Rattle.splice.specs.Pieces.{line_at, piece_of, returned, copied_insns, copies_from, kept_insn, moved_pieces, first_place, copied_pieces, call_pieces, kept_pieces, pieces_at, pieces_from, pieces_of, body_spliced}
use Rattle.splice.specs.Shifted.{shifted, word, place_in}
use Rattle.calls_kept.specs.Copied.{accepted_by, IsNamed, IsCopied, RegionWithin, IsWithin, AreCopied, IsSplicedByNumber}
use Rattle.calls_kept.proofs.Remaking.{same_registers, same_targets, retargeted_by_number, remade_all}
use Rattle.calls_kept.proofs.Chosen.{Matches, Neither, Both, matches, same_greatest, same_taken, same_dropped}
use Rattle.calls_kept.proofs.Moves.{shifts, same_moves, long_moves, short_moves}
use Rattle.calls_kept.proofs.Places.{words, low, place_few, same_place, few_places, same_inner}

module _ (p : Program) where
  abbrev names : List by_name.Piece → List Form
  names qs = map (λ q. q.form) qs

  -- the forms of instructions from which something is made
  of_insns : {X : Type 0} (g : Insn → X) (f : X → Form) → ((i : Insn) → f (g i) ≡ form_of p i) → (is : List Insn) → map f (map g is) ≡ map (form_of p) is
  of_insns g f h [] = refl
  of_insns g f h (i ∷ is) = ap₂ (λ x xs. x ∷ xs) (h i) (of_insns g f h is)

  of_forms : (f : Form → by_name.Piece) → ((x : Form) → (f x).form ≡ x) → (xs : List Form) → names (map f xs) ≡ xs
  of_forms f h [] = refl
  of_forms f h (x ∷ xs) = ap₂ (λ y ys. y ∷ ys) (h x) (of_forms f h xs)

  forms_append : {X : Type 0} (xs ys : List X) (f : X → Form) → map f (xs ++ ys) ≡ map f xs ++ map f ys
  forms_append xs ys f = map_append f xs ys

  names_append : (xs ys : List by_name.Piece) → names (xs ++ ys) ≡ names xs ++ names ys
  names_append xs ys = map_append (λ q. q.form) xs ys

  -- ---- one instruction of a copy

  module _ (k end : ℕ) (t u : ℕ → ℕ) where
    kept_copy : (i : Insn) → ((j : ℕ) → Contains (targets_of i) j → t j ≡ u j) → form_of p (insn_retargeted t i) ≡ retargeted u (form_of p i)
    kept_copy i h = retargeted_by_number p t i ∙ same_targets t u p (λ r. r) i h

    one_copy : (o : Taken) → ((s : _) → o ≡ Some s → s.1 + k ≤ 65535) → (i : Insn) → ((j : ℕ) → Contains (targets_of i) j → t j ≡ u j)
        → map (form_of p) (copied_insns k o end t i) ≡ by_name.copied k o end u (form_of p i)
    one_copy None l (insn.Return slot from) h = refl
    one_copy None l insn.ReturnVoid h = refl
    one_copy None l i h = ap (λ x. x ∷ []) (kept_copy i h)
    one_copy (Some s) l (insn.Return slot from) h = ap (λ r. form.Move s.0 r from ∷ form.Goto end ∷ []) (shifts k s.1 (l s refl))
    one_copy (Some s) l insn.ReturnVoid h = refl
    one_copy (Some s) l i h = ap (λ x. x ∷ []) (kept_copy i h)

  -- ---- a copy

  module _ (key : MethodKey) (m : NamedMethod) (b : NamedBody) (accepted : List ℕ) (y : by_name.Callee) (n first end : ℕ) (o : Taken) (place : ℕ → ℕ)
      (low : (s : _) → o ≡ Some s → s.1 + by_name.greatest (named p) b accepted ≤ 65535) (meth : Method) (line : ℕ) where
    copies_same : (i : ℕ) (is : List Insn) → ((j : ℕ) (x : Insn) → slice_get is j ≡ Some x → (k : ℕ) → Contains (targets_of x) k → place k ≡ first + by_name.copy_place o y.body.forms k)
        → map (λ q. form_of p q.insn) (copies_from (by_name.greatest (named p) b accepted) o end place meth line i is) ≡ map (λ q. q.form) (by_name.copies (named p) key m b accepted y n first end o i (map (form_of p) is))
    copies_same i [] h = refl
    copies_same i (x ∷ is) h =
        let shift = by_name.greatest (named p) b accepted in
        let here = map (piece_of meth i (by_name.copied_line line (line_at meth i))) (copied_insns shift o end place x) in
        let rest = copies_from shift o end place meth line (suc i) is in
        let there = map (by_name.copy_piece (named p) key m b accepted y n i) (by_name.copied shift o end (λ j. first + by_name.copy_place o y.body.forms j) (form_of p x)) in
        let others = by_name.copies (named p) key m b accepted y n first end o (suc i) (map (form_of p) is) in
        forms_append here rest (λ q. form_of p q.insn)
        ∙ ap₂ (λ (xs ys : List Form). xs ++ ys)
        (of_insns (piece_of meth i (by_name.copied_line line (line_at meth i))) (λ q. form_of p q.insn) (λ z. refl) (copied_insns shift o end place x)
        ∙ one_copy shift end place (λ j. first + by_name.copy_place o y.body.forms j) o low x (h 0 x refl)
        ∙ sym (of_forms (by_name.copy_piece (named p) key m b accepted y n i) (λ z. refl) (by_name.copied shift o end (λ j. first + by_name.copy_place o y.body.forms j) (form_of p x))))
        (copies_same (suc i) is (λ j. h (suc j)))
        ∙ sym (names_append there others)

-- ---- a caller

result_low : (t : Slot) (to n : ℕ) → registers_fit (insn.MoveResult t to) n ≡ true → to < n
unfolding registers_fit
result_low slot.Wide to n h = let l = ltb-true (to + 1) n h in omega (arith, l)
result_low slot.Word to n h = ltb-true to n h
result_low slot.Object to n h = ltb-true to n h

module _ (p : Program) (key : MethodKey) (m : NamedMethod) (caller : Method) (b : Body) (chosen : List (Option Callee)) (within : IsWithin b) (copied : AreCopied p b chosen) where
  abbrev B : NamedBody
  B = body_of p b

  abbrev A : List ℕ
  A = accepted_by chosen

  abbrev K : ℕ
  K = by_name.greatest (named p) (body_of p b) (accepted_by chosen)

  abbrev places : List ℕ
  places = places_of p chosen (by_name.greatest (named p) (body_of p b) (accepted_by chosen)) b.insns

  abbrev place : ℕ → ℕ
  place = by_name.place_of (named p) (body_of p b) (accepted_by chosen)

  roomy : b.registers + by_name.greatest (named p) (body_of p b) (accepted_by chosen) ≤ 65535
  roomy = low p b chosen within copied

  short : (n : ℕ) → n ≤ length b.insns → word n ≡ n
  short n l = let w = within.few in words n (omega (arith, l, w))

  place_there : (n : ℕ) → n ≤ length b.insns → place_in places (word n) ≡ place n
  place_there n l = ap (place_in places) (short n l) ∙ same_place p b chosen within copied n l

  -- ---- what stays

  kept_same : (n : ℕ) (i : Insn) → slice_get b.insns n ≡ Some i → form_of p (kept_insn K places i) ≡ remade (λ r. r + K) (λ r. r + K) place (form_of p i)
  kept_same n i e =
      let l = roomy in
      remade_all p (place_in places) (shifted K) i
      ∙ same_registers b.registers (shifted K) (λ r. r + K) (λ r k. shifts K r (omega (arith, k, l))) p (place_in places) i (within.registers n i e)
      ∙ same_targets (place_in places) place p (λ r. r + K) i (λ t c. same_place p b chosen within copied t (within.targets n t i e c))

  kept_pieces_same : (n : ℕ) (i : Insn) → slice_get b.insns n ≡ Some i
      → map (λ q. form_of p q.insn) (kept_pieces p caller b.insns chosen K places n i) ≡ map (λ q. q.form) (by_name.kept_form (named p) key m B A n (form_of p i))
  kept_pieces_same n i e = by (is_dropped chosen b.insns n) (by_name.is_dropped B A n) (sym (same_dropped p b chosen n))
    where
      by : (u v : Bool) → u ≡ v → map (λ q. form_of p q.insn) (if u then [] else piece_of caller n (line_at caller n) (kept_insn K places i) ∷ [])
          ≡ map (λ q. q.form) (if v then [] else by_name.piece (named p) key m B A n (remade (λ r. r + K) (λ r. r + K) place (form_of p i)) ∷ [])
      by true true e' = refl
      by false false e' = ap (λ x. x ∷ []) (kept_same n i e)
      by true false e' = absurd (cc)
      by false true e' = absurd (cc)

  -- ---- what is copied

  taken_low : (n : ℕ) (s : _) → by_name.taken_by (form_at B (n + 1)) ≡ Some s → s.1 + K ≤ 65535
  taken_low n s e = by (slice_get b.insns (n + 1)) refl (sym (same_taken p b (n + 1)) ∙ e)
    where
      by : (o : Option Insn) → slice_get b.insns (n + 1) ≡ o → taken_by o ≡ Some s → s.1 + K ≤ 65535
      by None i h = none_some s h
      by (Some (insn.MoveResult t to)) i h =
          let r = roomy in
          let l = result_low t to b.registers (within.registers (n + 1) (insn.MoveResult t to) i) in
          let q : to ≡ s.1 = ap (λ (z : Slot × ℕ). z.1) (some_same (t, to) s h) in
          omega (arith, r, l, q)
      by (Some z) i h = none_some s h

  module _ (n : ℕ) (c : Callee) (x : IsCopied p b n c) (i : Insn) (here : slice_get b.insns n ≡ Some i) (accepted : by_name.callee_at (named p) B A n ≡ Some x.callee) where
    abbrev taken : Taken
    taken = by_name.taken_by (form_at (body_of p b) (n + 1))

    lower : n < length b.insns
    lower = got_short b.insns n i here

    same_insn : x.insn ≡ i
    same_insn = some_same x.insn i (sym x.here ∙ here)

    moves_same : map (form_of p) (moves_of p K c (args_of i)) ≡ by_name.moves_of K x.callee
    moves_same = subst (λ z. map (form_of p) (moves_of p K c (args_of z)) ≡ by_name.moves_of K x.callee) same_insn (same_moves p x.insn c x.callee x.is K b.registers x.passes roomy x.room)

    moves_long : length (moves_of p K c (args_of i)) ≡ length (by_name.moves_of K x.callee)
    moves_long = subst (λ z. length (moves_of p K c (args_of z)) ≡ length (by_name.moves_of K x.callee)) same_insn (long_moves p x.insn c x.callee x.is K b.registers x.passes roomy x.room)

    moves_few : length (by_name.moves_of K x.callee) ≤ 16
    moves_few = let a = short_moves p x.insn c x.callee x.is K b.registers x.passes roomy x.room in let f = x.few in omega (arith, a, f)

    first_same : first_place p caller b.insns chosen K places n c i ≡ place n + length (by_name.moves_of K x.callee)
    first_same =
        let few = moves_few in
        let long = moves_long in
        let low = few_places p b chosen within copied n lower c x accepted in
        ap₂ (λ u v. word (u + v)) (place_there n (omega (arith, lower))) (words (length (moves_of p K c (args_of i))) (omega (arith, few, long)) ∙ long)
        ∙ words (place n + length (by_name.moves_of K x.callee)) (omega (arith, low))

    end_same : place_in places (word (n + 1)) ≡ place (n + 1)
    end_same = place_there (n + 1) (omega (arith, lower))

    call_same : map (λ q. form_of p q.insn) (call_pieces p caller b.insns chosen K places n c i) ≡ map (λ q. q.form) (by_name.inlined_call (named p) key m B A n x.callee)
    call_same =
        let start = place n + length (by_name.moves_of K x.callee) in
        let moved = moved_pieces p caller b.insns chosen K places n c i in
        let behind = copied_pieces p caller b.insns chosen K places n c (taken_by (slice_get b.insns (n + 1))) (first_place p caller b.insns chosen K places n c i) in
        let forms_are : x.callee.body.forms ≡ map (form_of p) c.body.now.insns = ap (λ (d : NamedBody). d.forms) x.is.body in
        forms_append p moved behind (λ q. form_of p q.insn)
        ∙ ap₂ (λ (xs ys : List Form). xs ++ ys)
        (of_insns p (piece_of caller n (line_at caller n)) (λ q. form_of p q.insn) (λ z. refl) (moves_of p K c (args_of i)) ∙ moves_same ∙ sym (of_forms p (by_name.piece (named p) key m B A n) (λ z. refl) (by_name.moves_of K x.callee)))
        (copies_are start forms_are)
        ∙ sym (names_append p (map (by_name.piece (named p) key m B A n) (by_name.moves_of K x.callee))
        (by_name.copies (named p) key m B A x.callee n (place n + length (by_name.moves_of K x.callee)) (place (n + 1)) taken 0 x.callee.body.forms))
      where
        same_t : taken_by (slice_get b.insns (n + 1)) ≡ taken
        same_t = sym (same_taken p b (n + 1))

        copies_are : (start : ℕ) → x.callee.body.forms ≡ map (form_of p) c.body.now.insns
            → map (λ q. form_of p q.insn) (copied_pieces p caller b.insns chosen K places n c (taken_by (slice_get b.insns (n + 1))) (first_place p caller b.insns chosen K places n c i))
            ≡ map (λ q. q.form) (by_name.copies (named p) key m B A x.callee n (place n + length (by_name.moves_of K x.callee)) (place (n + 1)) taken 0 x.callee.body.forms)
        copies_are start forms_are =
            let first = place n + length (by_name.moves_of K x.callee) in
            ap₂ (λ t f. map (λ q. form_of p q.insn) (copies_from K t (place_in places (word (n + 1))) (place_in (inner_places f (is_some t) c.body.now.insns)) c.method.now (line_at caller n) 0 c.body.now.insns)) same_t first_same
            ∙ ap (λ e. map (λ q. form_of p q.insn) (copies_from K taken e (place_in (inner_places (place n + length (by_name.moves_of K x.callee)) (is_some taken) c.body.now.insns)) c.method.now (line_at caller n) 0 c.body.now.insns)) end_same
            ∙ copies_same p key m B A x.callee n (place n + length (by_name.moves_of K x.callee)) (place (n + 1)) taken (place_in (inner_places (place n + length (by_name.moves_of K x.callee)) (is_some taken) c.body.now.insns))
            (taken_low n) c.method.now (line_at caller n) 0 c.body.now.insns
            (λ j z e k t. same_inner p b chosen within copied n lower c x accepted k (x.targets j k z e t))
            ∙ ap (λ fs. map (λ q. q.form) (by_name.copies (named p) key m B A x.callee n (place n + length (by_name.moves_of K x.callee)) (place (n + 1)) taken 0 fs)) (sym forms_are)

  -- ---- all positions

  one_position : (n : ℕ) (i : Insn) → slice_get b.insns n ≡ Some i → map (λ q. form_of p q.insn) (pieces_at p caller b.insns chosen K places n i (chosen_at chosen n))
      ≡ map (λ q. q.form) (by_name.pieces_at (named p) key m B A n (form_of p i) (by_name.callee_at (named p) B A n))
  one_position n i e = by (by_name.callee_at (named p) B A n) (chosen_at chosen n) refl (matches p b chosen copied n)
    where
      by : (y : Option by_name.Callee) (o : Option Callee) → by_name.callee_at (named p) B A n ≡ y → Matches p b n y o
          → map (λ q. form_of p q.insn) (pieces_at p caller b.insns chosen K places n i o) ≡ map (λ q. q.form) (by_name.pieces_at (named p) key m B A n (form_of p i) y)
      by _ _ a Neither = kept_pieces_same n i e
      by _ _ a (Both c x) = call_same n c x i e a

  all_positions : (is : List Insn) (n : ℕ) → ((j : ℕ) (i : Insn) → slice_get is j ≡ Some i → slice_get b.insns (n + j) ≡ Some i)
      → map (λ q. form_of p q.insn) (pieces_from p caller b.insns chosen K places n is) ≡ map (λ q. q.form) (by_name.pieces_from (named p) key m B A n (map (form_of p) is))
  all_positions [] n h = refl
  all_positions (i ∷ is) n h =
      let here = pieces_at p caller b.insns chosen K places n i (chosen_at chosen n) in
      let there = by_name.pieces_at (named p) key m B A n (form_of p i) (by_name.callee_at (named p) B A n) in
      forms_append p here (pieces_from p caller b.insns chosen K places (suc n) is) (λ q. form_of p q.insn)
      ∙ ap₂ (λ (xs ys : List Form). xs ++ ys) (one_position n i (ap (slice_get b.insns) (same n) ∙ h 0 i refl)) (all_positions is (suc n) (λ j z e. ap (slice_get b.insns) (next n j) ∙ h (suc j) z e))
      ∙ sym (names_append p there (by_name.pieces_from (named p) key m B A (suc n) (map (form_of p) is)))
    where
      same : (n : ℕ) → n ≡ n + 0
      same n = omega arith

      next : (n j : ℕ) → suc n + j ≡ n + suc j
      next n j = omega arith

  -- ---- regions

  handlers_same : (hs : List Handler) → ((h : Handler) → Contains hs h → h.position ≤ length b.insns)
      → map (handler_of p) (map (handler_moved (place_in places)) hs) ≡ map (by_name.placed_handler (named p) key m B A) (map (handler_of p) hs)
  handlers_same [] l = refl
  handlers_same (h ∷ hs) l = ap₂ (λ (x : NamedHandler) xs. x ∷ xs) (ap (λ k. record { kind = (handler_of p h).kind; position = k }) (same_place p b chosen within copied h.position (l h (contains_here h hs))))
      (handlers_same hs (λ g i. l g (contains_there h hs g i)))

  rest_same : (o : Option ℕ) → ((k : ℕ) → o ≡ Some k → k ≤ length b.insns) → option_map (place_in places) o ≡ option_map place o
  rest_same None l = refl
  rest_same (Some k) l = ap Some (same_place p b chosen within copied k (l k refl))

  region_same : (r : Region) → RegionWithin (length b.insns) r → region_of p (region_moved (place_in places) r) ≡ by_name.placed_region (named p) key m B A (region_of p r)
  region_same r l =
      ap₂ (λ u v. record { first = u; end = v; handlers = (region_of p (region_moved (place_in places) r)).handlers; rest = option_map (place_in places) r.rest })
      (same_place p b chosen within copied r.first l.first) (same_place p b chosen within copied r.end l.last)
      ∙ ap₂ (λ (hs : List NamedHandler) o. record { first = place r.first; end = place r.end; handlers = hs; rest = o }) (handlers_same r.handlers l.handlers) (rest_same r.rest l.rest)

  regions_same : (rs : List Region) → ((r : Region) → Contains rs r → RegionWithin (length b.insns) r)
      → map (region_of p) (map (region_moved (place_in places)) rs) ≡ map (by_name.placed_region (named p) key m B A) (map (region_of p) rs)
  regions_same [] l = refl
  regions_same (r ∷ rs) l = ap₂ (λ (x : NamedRegion) xs. x ∷ xs) (region_same r (l r (contains_here r rs))) (regions_same rs (λ s i. l s (contains_there r rs s i)))

  -- ---- the body

  insns_named : {X : Type 0} (qs : List X) (f : X → Insn) → map (form_of p) (map f qs) ≡ map (λ q. form_of p (f q)) qs
  insns_named [] f = refl
  insns_named (q ∷ qs) f = ap (λ l. form_of p (f q) ∷ l) (insns_named qs f)

  abbrev with_shift : ℕ → NamedBody
  with_shift k = record {
    registers = shifted k b.registers;
    ins = b.ins;
    forms = map (form_of p) (map (λ q. q.insn) (pieces_from p caller b.insns chosen k (places_of p chosen k b.insns) 0 b.insns));
    regions = map (region_of p) (map (region_moved (place_in (places_of p chosen k b.insns))) b.regions);
  }

  pub spliced_named : body_of p (body_spliced p caller b chosen) ≡ by_name.inlined (named p) key m B A
  spliced_named =
      ap with_shift (sym (same_greatest p b chosen copied))
      ∙ ap₂ (λ r (fs : List Form). record { registers = r; ins = b.ins; forms = fs; regions = map (region_of p) (map (region_moved (place_in places)) b.regions) })
      (shifts K b.registers roomy)
      (insns_named (pieces_from p caller b.insns chosen K places 0 b.insns) (λ q. q.insn) ∙ all_positions b.insns 0 (λ j i e. ap (slice_get b.insns) (plain j) ∙ e))
      ∙ ap (λ (rs : List NamedRegion). record { registers = b.registers + K; ins = b.ins; forms = map (λ q. q.form) (by_name.pieces_from (named p) key m B A 0 (map (form_of p) b.insns)); regions = rs }) (regions_same b.regions within.regions)
    where
      plain : (j : ℕ) → 0 + j ≡ j
      plain j = omega arith

pub spliced_by_number : IsSplicedByNumber
spliced_by_number p key m caller b chosen within copied = spliced_named p key m caller b chosen within copied
