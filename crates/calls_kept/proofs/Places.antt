-- Where the positions of a caller and of a method that is copied begin.
use Rattle.std.proofs.Common.{◌≡◌, ℕ, zero, suc, ◌+◌, ◌*◌, ◌<◌, ◌≤◌, Bool, true, false, List, [], ◌∷◌, ◌++◌, length, map, Option, Some, None, refl, sym, ap, ap₂, ◌∙◌, subst, arith}
use Rattle.std.specs.Prelude.{if◌then◌else◌, is_some, slice_get, slice_index_or, sum_by}
use Rattle.std.proofs.Math.Nat.{min-eq_left}
use Rattle.std.proofs.lemmas.List.Sums.{sum_by-cons}
use Rattle.lemmas.proofs.Lists.{map_long, got_short, get_there}
use Rattle.lemmas.proofs.Numbers.{next_is}
use Rattle.lemmas.proofs.Options.{none_some, some_same}
use Rattle.insn_set.specs.declared.form.Insn.{Insn}
use Rattle.insn_set.specs.declared.form.Insn.TheVariants as insn
use Rattle.program_model.specs.declared.body.Body.{Body}
use Rattle.program_model.specs.declared.program.Program.{Program}
use Rattle.dalvik_defs.specs.Naming.{form_of, body_of, named}
use Rattle.dalvik_defs.specs.declared.forms.Form.{Form}
use Rattle.dalvik_defs.specs.declared.program.NamedBody.{NamedBody}
use Rattle.dalvik_defs.specs.declared.program.NamedProgram.{NamedProgram}
use Rattle.pass_defs.specs.Walks.{form_at}
use Rattle.pass_defs.specs.Inlined as by_name
use Rattle.splice.specs.declared.callee.Callee.{Callee}
use Rattle.splice.specs.Callees.{chosen_at, Taken, taken_by, is_dropped, greatest, args_of}
use Rattle.splice.specs.Moves.{moves_of}
use Rattle.splice.specs.Places.{copy_size, callee_size, size_by, size_at, sizes_from, places_from, places_of, inner_places}
use Rattle.splice.specs.Shifted.{word, place_in}
use Rattle.calls_kept.specs.Copied.{accepted_by, IsNamed, IsCopied, IsWithin, AreCopied}
use Rattle.calls_kept.proofs.Chosen.{form_there, Matches, Neither, Both, matches, same_greatest, has_room, same_taken, same_dropped}
use Rattle.calls_kept.proofs.Moves.{long_moves, short_moves}

pub words : (n : ℕ) → n ≤ 4294967295 → word n ≡ n
words n l = min-eq_left l

-- ---- sums

abbrev pub sum_first : List ℕ → ℕ → ℕ
sum_first ss zero = 0
sum_first [] (suc n) = 0
sum_first (s ∷ ss) (suc n) = s + sum_first ss n

-- each number is at most another one
abbrev pub Bounded : ℕ → List ℕ → Type 0
Bounded m [] = Unit {0}
Bounded m (s ∷ ss) = (s ≤ m) × Bounded m ss

sum_next : (ss : List ℕ) (n s : ℕ) → slice_get ss n ≡ Some s → sum_first ss (suc n) ≡ sum_first ss n + s
sum_next [] n s e = none_some s e
sum_next (x ∷ ss) zero s e = let q : x ≡ s = some_same x s e in omega (arith, q)
sum_next (x ∷ ss) (suc n) s e = let h = sum_next ss n s e in omega (arith, h)

sum_grows : (ss : List ℕ) (n m : ℕ) → n ≤ m → sum_first ss n ≤ sum_first ss m
sum_grows ss zero m l = omega arith
sum_grows ss (suc n) zero l = let f : ⊥ = omega (arith, l) in absurd f
sum_grows [] (suc n) (suc m) l = omega arith
sum_grows (s ∷ ss) (suc n) (suc m) l = let h = sum_grows ss n m (omega (arith, l)) in omega (arith, h)

sum_two : (ss : List ℕ) (n : ℕ) → Bounded 2 ss → sum_first ss n ≤ 2 * n
sum_two ss zero b = omega arith
sum_two [] (suc n) b = omega arith
sum_two (s ∷ ss) (suc n) b = let h = sum_two ss n b.1 in let q = b.0 in omega (arith, h, q)

-- a table of places is the sums, as long as these have 32 bits
tabled : (ss : List ℕ) (at n d : ℕ) → n ≤ length ss → at + sum_first ss (length ss) ≤ 4294967295 → slice_index_or (places_from at ss) n d ≡ at + sum_first ss n
tabled [] at zero d l m = omega arith
tabled [] at (suc n) d l m = let f : ⊥ = omega (arith, l) in absurd f
tabled (s ∷ ss) at zero d l m = omega arith
tabled (s ∷ ss) at (suc n) d l m = ap (λ k. slice_index_or (places_from k ss) n d) (words (at + s) (omega (arith, m)))
    ∙ tabled ss (at + s) n d (omega (arith, l)) (omega (arith, m)) ∙ assoc at s (sum_first ss n)
  where
    assoc : (a b c : ℕ) → a + b + c ≡ a + (b + c)
    assoc a b c = omega arith

-- ---- a method that is copied

module _ (p : Program) where
  size_same : (t : Taken) (i : Insn) → by_name.copy_size t (form_of p i) ≡ copy_size (is_some t) i
  size_same None (insn.Return slot from) = refl
  size_same None insn.Nop = refl
  size_same None i = refl
  size_same (Some t) (insn.Return slot from) = refl
  size_same (Some t) insn.Nop = refl
  size_same (Some t) i = refl

  copy_sums : (t : Taken) (is : List Insn) (n : ℕ) → by_name.copy_place t (map (form_of p) is) n ≡ sum_first (map (copy_size (is_some t)) is) n
  copy_sums t is zero = refl
  copy_sums t [] (suc n) = refl
  copy_sums t (i ∷ is) (suc n) = ap₂ (λ a b. a + b) (size_same t i) (copy_sums t is n)

  copy_total : (t : Taken) (is : List Insn) → by_name.copy_place t (map (form_of p) is) (length is) ≡ sum_by (copy_size (is_some t)) is
  copy_total t [] = refl
  copy_total t (i ∷ is) = ap₂ (λ a b. a + b) (size_same t i) (copy_total t is) ∙ sym (sum_by-cons (copy_size (is_some t)) i is)

size_two : (t : Bool) (i : Insn) → copy_size t i ≤ 2
size_two true (insn.Return slot from) = omega arith
size_two true insn.Nop = omega arith
size_two true i = omega arith
size_two false i = omega arith

sizes_two : (t : Bool) (is : List Insn) → Bounded 2 (map (copy_size t) is)
sizes_two t [] = tt
sizes_two t (i ∷ is) = (size_two t i, sizes_two t is)

-- ---- a caller

module _ (p : Program) (b : Body) (chosen : List (Option Callee)) (within : IsWithin b) (copied : AreCopied p b chosen) where
  abbrev pub P : NamedProgram
  P = named p

  abbrev pub B : NamedBody
  B = body_of p b

  abbrev pub A : List ℕ
  A = accepted_by chosen

  abbrev pub K : ℕ
  K = by_name.greatest (named p) (body_of p b) (accepted_by chosen)

  pub low : b.registers + K ≤ 65535
  low = subst (λ k. b.registers + k ≤ 65535) (sym (same_greatest p b chosen copied)) (has_room p b chosen copied within.few_registers)

  taken_behind : (n : ℕ) → by_name.taken_by (form_at B (n + 1)) ≡ taken_by (slice_get b.insns (suc n))
  taken_behind n = ap (λ k. by_name.taken_by (form_at B k)) (next_is n) ∙ same_taken p b (suc n)

  -- ---- the room of each position

  -- what a copy takes
  callee_few : (n : ℕ) (c : Callee) (x : IsCopied p b n c) (t : Taken) → by_name.callee_size K t x.callee ≤ 48
  callee_few n c x t =
      let m = short_moves p x.insn c x.callee x.is K b.registers x.passes low x.room in
      let f = x.few in
      let s = x.short in
      let total : by_name.copy_place t x.callee.body.forms (length x.callee.body.forms) ≡ sum_first (map (copy_size (is_some t)) c.body.now.insns) (length c.body.now.insns) =
      ap (λ (d : NamedBody). by_name.copy_place t d.forms (length d.forms)) x.is.body ∙ ap (by_name.copy_place t (map (form_of p) c.body.now.insns)) (map_long (form_of p) c.body.now.insns)
      ∙ copy_sums p t c.body.now.insns (length c.body.now.insns) in
      let bound = sum_two (map (copy_size (is_some t)) c.body.now.insns) (length c.body.now.insns) (sizes_two (is_some t) c.body.now.insns) in
      omega (arith, m, f, s, total, bound)

  callee_same : (n : ℕ) (c : Callee) (x : IsCopied p b n c) (t : Taken) → callee_size p K (is_some t) c (args_of x.insn) ≡ by_name.callee_size K t x.callee
  callee_same n c x t =
      let l = long_moves p x.insn c x.callee x.is K b.registers x.passes low x.room in
      let total : by_name.copy_place t x.callee.body.forms (length x.callee.body.forms) ≡ sum_by (copy_size (is_some t)) c.body.now.insns =
      ap (λ (d : NamedBody). by_name.copy_place t d.forms (length d.forms)) x.is.body ∙ ap (by_name.copy_place t (map (form_of p) c.body.now.insns)) (map_long (form_of p) c.body.now.insns)
      ∙ copy_total p t c.body.now.insns in
      let same : length (moves_of p K c (args_of x.insn)) + sum_by (copy_size (is_some t)) c.body.now.insns ≡ by_name.callee_size K t x.callee = omega (arith, l, total) in
      ap word same ∙ words (by_name.callee_size K t x.callee) (let f = callee_few n c x t in omega (arith, f))

  -- the sizes by number and by name
  size_same_at : (n : ℕ) (i : Insn) → slice_get b.insns n ≡ Some i → size_at p chosen K b.insns n i ≡ by_name.size_of K B A n (by_name.callee_at P B A n)
  size_same_at n i e = by (by_name.callee_at P B A n) (chosen_at chosen n) (matches p b chosen copied n)
    where
      by : (y : Option by_name.Callee) (o : Option Callee) → Matches p b n y o
          → size_by p K (is_some (taken_by (slice_get b.insns (suc n)))) (is_dropped chosen b.insns n) i o ≡ by_name.size_of K B A n y
      by _ _ Neither = ap (λ d. if d then 0 else 1) (sym (same_dropped p b chosen n))
      by _ _ (Both c x) = ap (λ z. callee_size p K (is_some (taken_by (slice_get b.insns (suc n)))) c (args_of z)) (some_same i x.insn (sym e ∙ x.here))
          ∙ callee_same n c x (taken_by (slice_get b.insns (suc n))) ∙ ap (λ t. by_name.callee_size K t x.callee) (sym (taken_behind n))

  size_few : (n : ℕ) → by_name.size_of K B A n (by_name.callee_at P B A n) ≤ 48
  size_few n = by (by_name.callee_at P B A n) (chosen_at chosen n) (matches p b chosen copied n)
    where
      one_at_most : (d : Bool) → (if d then 0 else 1) ≤ 48
      one_at_most true = omega arith
      one_at_most false = omega arith

      by : (y : Option by_name.Callee) (o : Option Callee) → Matches p b n y o → by_name.size_of K B A n y ≤ 48
      by _ _ Neither = one_at_most (by_name.is_dropped B A n)
      by _ _ (Both c x) = callee_few n c x (by_name.taken_by (form_at B (n + 1)))

  abbrev sizes : List ℕ
  sizes = sizes_from p chosen K b.insns 0 b.insns

  sizes_at : (is : List Insn) (m j k : ℕ) (i : Insn) → slice_get is j ≡ Some i → k ≡ m + j → slice_get (sizes_from p chosen K b.insns m is) j ≡ Some (size_at p chosen K b.insns k i)
  sizes_at [] m j k i e q = none_some i e
  sizes_at (x ∷ is) m zero k i e q = let z : m ≡ k = omega (arith, q) in ap₂ (λ a y. Some (size_at p chosen K b.insns a y)) z (some_same x i e)
  sizes_at (x ∷ is) m (suc j) k i e q = sizes_at is (suc m) j k i e (omega (arith, q))

  sizes_long : (is : List Insn) (m : ℕ) → length (sizes_from p chosen K b.insns m is) ≡ length is
  sizes_long [] m = refl
  sizes_long (i ∷ is) m = ap suc (sizes_long is (suc m))

  sums_are : (n : ℕ) → n ≤ length b.insns → by_name.place_of P B A n ≡ sum_first sizes n
  sums_are zero l = refl
  sums_are (suc n) l =
      let x = get_there b.insns n (omega (arith, l)) in
      let h = sums_are n (omega (arith, l)) in
      ap₂ (λ a s. a + s) h (sym (size_same_at n x.0 x.1)) ∙ sym (sum_next sizes n (size_at p chosen K b.insns n x.0) (sizes_at b.insns 0 n n x.0 x.1 (omega arith)))

  pub place_few : (n : ℕ) → by_name.place_of P B A n ≤ 48 * n
  place_few zero = omega arith
  place_few (suc n) = let h = place_few n in let s = size_few n in omega (arith, h, s)

  -- each place of the table is the one by name
  pub same_place : (n : ℕ) → n ≤ length b.insns → place_in (places_of p chosen K b.insns) n ≡ by_name.place_of P B A n
  same_place n l =
      let long = sizes_long b.insns 0 in
      let total : sum_first sizes (length sizes) ≡ by_name.place_of P B A (length b.insns) = ap (sum_first sizes) long ∙ sym (sums_are (length b.insns) (omega arith)) in
      let few = place_few (length b.insns) in
      let w = within.few in
      let none : (k : ℕ) → 0 + k ≡ k = λ k. omega arith in
      tabled sizes 0 n n (omega (arith, l, long)) (omega (arith, total, few, w)) ∙ none (sum_first sizes n) ∙ sym (sums_are n l)

  -- ---- a copy

  module _ (n : ℕ) (here : n < length b.insns) (c : Callee) (x : IsCopied p b n c) (accepted : by_name.callee_at P B A n ≡ Some x.callee) where
    abbrev pub T : Taken
    T = by_name.taken_by (form_at B (n + 1))

    abbrev pub first : ℕ
    first = by_name.place_of P B A n + length (by_name.moves_of K x.callee)

    pub few_places : by_name.place_of P B A n + by_name.callee_size K (by_name.taken_by (form_at B (n + 1))) x.callee ≤ 4294967295
    few_places =
        let e : by_name.place_of P B A (suc n) ≡ by_name.place_of P B A n + by_name.callee_size K (by_name.taken_by (form_at B (n + 1))) x.callee = ap (λ y. by_name.place_of P B A n + by_name.size_of K B A n y) accepted in
        let f = place_few (suc n) in
        let w = within.few in
        omega (arith, e, f, w, here)

    pub same_inner : (j : ℕ) → j ≤ length c.body.now.insns → place_in (inner_places first (is_some T) c.body.now.insns) j ≡ first + by_name.copy_place T x.callee.body.forms j
    same_inner j l =
        let long = map_long (copy_size (is_some T)) c.body.now.insns in
        let each = copy_sums p T c.body.now.insns j in
        let all = copy_sums p T c.body.now.insns (length c.body.now.insns) in
        let forms : x.callee.body.forms ≡ map (form_of p) c.body.now.insns = ap (λ (d : NamedBody). d.forms) x.is.body in
        let total : by_name.copy_place T x.callee.body.forms (length x.callee.body.forms) ≡ by_name.copy_place T (map (form_of p) c.body.now.insns) (length c.body.now.insns) =
        ap (λ fs. by_name.copy_place T fs (length fs)) forms ∙ ap (by_name.copy_place T (map (form_of p) c.body.now.insns)) (map_long (form_of p) c.body.now.insns) in
        let few = few_places in
        let sums : sum_first (map (copy_size (is_some T)) c.body.now.insns) (length (map (copy_size (is_some T)) c.body.now.insns)) ≡ sum_first (map (copy_size (is_some T)) c.body.now.insns) (length c.body.now.insns) =
        ap (sum_first (map (copy_size (is_some T)) c.body.now.insns)) long in
        tabled (map (copy_size (is_some T)) c.body.now.insns) first j j (omega (arith, l, long)) (omega (arith, few, total, all, sums))
        ∙ ap (λ k. first + k) (sym each ∙ ap (λ fs. by_name.copy_place T fs j) (sym forms))
