-- The least sizes are those that the instructions need.
use Rattle.std.proofs.Common.{◌≡◌, ◌<◌, ◌≤◌, ◌+◌, ◌-◌, inl, inr, ℕ, zero, suc, ℤ, pos, negsuc, ◌-ℤ◌, Bool, true, false, List, [], ◌∷◌, ◌++◌, length, map, refl, sym, ap, ◌∙◌, arith, length-append}
use Rattle.std.specs.Prelude.{slice_index, nat_lt, nat_le, nat_eq, ◌&&◌, if◌then◌else◌}
use Rattle.std.specs.Ordering.{int_eq}
use Rattle.std.specs.List.{AllByRecursion}
use Rattle.std.specs.Cmp.{signed_Decides}
use Rattle.std.proofs.lemmas.Int.{ints}
use Rattle.std.proofs.lemmas.Bool.{cases_lt, cases_eq, lt-ltb, le-ltb, le-leb, lt-leb, eq-eqb, ne_eqb}
use Rattle.insn_set.specs.Formats.{format_units}
use Rattle.insn_set.specs.Spelling.{shortest, shortest_goto, shortest_string, fits_short}
use Rattle.insn_set.specs.declared.format.Format.{Format}
use Rattle.insn_set.specs.declared.format.Format.TheVariants.{F10x, F10t, F20t, F30t}
use Rattle.insn_set.specs.declared.form.Insn.{Insn}
use Rattle.insn_set.specs.declared.form.Insn.TheVariants.{Goto, ConstString}
use Rattle.program_model.specs.declared.pass.Renumber.{Renumber}
use Rattle.relax.specs.declared.step.Step.{Step}
use Rattle.relax.specs.declared.step.Step.TheVariants.{Fixed, Jump}
use Rattle.relax.specs.Steps.{step_of}
use Rattle.relax.specs.Sizes.{start, forward, backward, need, RoomFrom, Below, IsLeast}
use Rattle.relax.proofs.Least.{need_mono}
use Rattle.relax.proofs.Starts.{start_more}
use Rattle.dex_defs.specs.LaysOut.{step_of as new_step}
use Rattle.dex_defs.specs.Written.{new_insn}
use Rattle.written_code.proofs.Forms.{distance, NumbersFit}
use Rattle.written_code.proofs.Tables.{at_front}

-- ---- what is least

abbrev pub needs : List ℕ → ℕ → List Step → List ℕ
needs sizes at [] = []
needs sizes at (f ∷ fs) = need sizes at f ∷ needs sizes (suc at) fs

needs_below : (sizes : List ℕ) (at : ℕ) (fs : List Step) (ss : List ℕ) → RoomFrom sizes at fs ss → Below (needs sizes at fs) ss
needs_below sizes at [] [] r = tt
needs_below sizes at [] (s ∷ ss) r = absurd r
needs_below sizes at (f ∷ fs) [] r = absurd r
needs_below sizes at (f ∷ fs) (s ∷ ss) r = (r.0, needs_below sizes (suc at) fs ss r.1)

needs_room : (few sizes : List ℕ) → Below few sizes → (at : ℕ) (fs : List Step) → RoomFrom few at fs (needs sizes at fs)
needs_room few sizes b at [] = tt
needs_room few sizes b at (f ∷ fs) = (need_mono few sizes at f b, needs_room few sizes b (suc at) fs)

both_below : (ss ts : List ℕ) → Below ss ts → Below ts ss → ss ≡ ts
both_below [] [] a b = refl
both_below [] (t ∷ ts) a b = absurd a
both_below (s ∷ ss) [] a b = absurd a
both_below (s ∷ ss) (t ∷ ts) a b =
    let same : s ≡ t = omega (arith, a.0, b.0) in
    ap (λ (n : ℕ). n ∷ ss) same ∙ ap (λ (l : List ℕ). t ∷ l) (both_below ss ts a.1 b.1)

-- there are no others
pub least_one : (steps : List Step) (ss ts : List ℕ) → IsLeast steps ss → IsLeast steps ts → ss ≡ ts
least_one steps ss ts a b = both_below ss ts (a.least ts b.room) (b.least ss a.room)

pub least_needs : (steps : List Step) (sizes : List ℕ) → IsLeast steps sizes → sizes ≡ needs sizes 0 steps
least_needs steps sizes l =
    let low : Below (needs sizes 0 steps) sizes = needs_below sizes 0 steps sizes l.room in
    both_below sizes (needs sizes 0 steps) (l.least (needs sizes 0 steps) (needs_room (needs sizes 0 steps) sizes low 0 steps)) low

needs_long : (sizes : List ℕ) (at : ℕ) (fs : List Step) → length (needs sizes at fs) ≡ length fs
needs_long sizes at [] = refl
needs_long sizes at (f ∷ fs) = ap suc (needs_long sizes (suc at) fs)

pub least_long : (steps : List Step) (sizes : List ℕ) → IsLeast steps sizes → length sizes ≡ length steps
least_long steps sizes l = ap (λ (ns : List ℕ). length ns) (least_needs steps sizes l) ∙ needs_long sizes 0 steps

-- the size at a place, where these sizes stand before it
pub size_at : (sizes front : List ℕ) (at : ℕ) (f : Step) (fs : List Step) → sizes ≡ front ++ (need sizes at f ∷ needs sizes (suc at) fs) → length front ≡ at → start sizes (suc at) ≡ start sizes at + need sizes at f
size_at sizes front at f fs is long =
    let all : length sizes ≡ length front + suc (length (needs sizes (suc at) fs)) = ap (λ (l : List ℕ). length l) is ∙ length-append front (need sizes at f ∷ needs sizes (suc at) fs) in
    let here : slice_index sizes at ≡ need sizes at f = ap (λ (l : List ℕ). slice_index l at) is ∙ at_front front (need sizes at f ∷ needs sizes (suc at) fs) at 0 (omega (arith, long)) in
    start_more sizes at (omega (arith, all, long)) ∙ ap (λ (n : ℕ). start sizes at + n) here

-- ---- what an instruction needs is how long its shortest spelling is

small_units : (format : Format) → 0 < format_units format
small_units F10x = omega arith
small_units format = omega arith

abbrev choose : Bool → Bool → Bool → Format
choose a b c = if a then F30t else if b then F10t else if c then F20t else F30t

-- by how far it is
forward_long : (n : ℕ) → 0 < n → format_units (shortest_goto (pos n)) ≡ forward n
forward_long n some =
    let zero_no : int_eq (pos n) (pos 0) ≡ false = not_zero (int_eq (pos n) (pos 0)) refl in
    ap (λ (t : Bool). format_units (choose t (nat_le n 127) (nat_le n 32767))) zero_no ∙ units (nat_le n 127) (nat_le n 32767)
  where
    not_zero : (b : Bool) → int_eq (pos n) (pos 0) ≡ b → b ≡ false
    not_zero true e = absurd (let same : n ≡ 0 = from_int ((signed_Decides (pos n) (pos 0)).0 e) in omega (arith, same, some))
      where
        from_int : {a b : ℕ} → pos a ≡ pos b → a ≡ b
        from_int e = cc
    not_zero false e = refl

    units : (b c : Bool) → format_units (choose false b c) ≡ (if b then 1 else if c then 2 else 3)
    units true c = refl
    units false true = refl
    units false false = refl

backward_long : (n : ℕ) → format_units (shortest_goto (negsuc n)) ≡ backward (suc n)
backward_long n = ap (λ (b : Bool). format_units (choose false b (fits_short (negsuc n)))) (and_true (nat_le n 127) ∙ same 127) ∙ (ap (λ (c : Bool). format_units (choose false (nat_le (suc n) 128) c)) (and_true (nat_le n 32767) ∙ same 32767) ∙ units (nat_le (suc n) 128) (nat_le (suc n) 32768))
  where
    and_true : (b : Bool) → (b && true) ≡ b
    and_true true = refl
    and_true false = refl

    same : (m : ℕ) → nat_le n m ≡ nat_le (suc n) (suc m)
    same m = elim (cases_lt m n) [
      | inl lt ↦ lt-leb n m lt ∙ sym (lt-leb (suc n) (suc m) (omega (arith, lt)))
      | inr le ↦ le-leb n m le ∙ sym (le-leb (suc n) (suc m) (omega (arith, le)))
    ]

    units : (b c : Bool) → format_units (choose false b c) ≡ (if b then 1 else if c then 2 else 3)
    units true c = refl
    units false true = refl
    units false false = refl

none_long : (a b : ℕ) → a ≡ b → format_units (shortest_goto (pos a -ℤ pos b)) ≡ 3
none_long a b e =
    let zero_is : (pos a -ℤ pos b) ≡ pos 0 = omega (arith, ints, e) in
    ap (λ (z : ℤ). format_units (shortest_goto z)) zero_is

-- each position has a unit
abbrev pub AllSome : List ℕ → Type 0
AllSome sizes = AllByRecursion (λ s. 0 < s) sizes

pub start_less : (sizes : List ℕ) (i j : ℕ) → AllSome sizes → i < j → i < length sizes → start sizes i < start sizes j
start_less [] i j a lt inside = absurd (omega (arith, inside))
start_less (s ∷ ss) zero zero a lt inside = absurd (omega (arith, lt))
start_less (s ∷ ss) zero (suc j) a lt inside = omega (arith, a.0)
start_less (s ∷ ss) (suc i) zero a lt inside = absurd (omega (arith, lt))
start_less (s ∷ ss) (suc i) (suc j) a lt inside = omega (arith, start_less ss i j a.1 (omega (arith, lt)) (omega (arith, inside)))

pub goto_long : (sizes : List ℕ) (at target : ℕ) → AllSome sizes → at < length sizes → target < length sizes → need sizes at (Jump target) ≡ format_units (shortest_goto (pos (start sizes target) -ℤ pos (start sizes at)))
goto_long sizes at target a inside in_target = elim (cases_eq target at) [
  | inl e ↦ ap (λ (b : Bool). if b then 3 else if nat_lt at target then forward (start sizes target - start sizes at) else backward (start sizes at - start sizes target)) (eq-eqb target at e) ∙ sym (none_long (start sizes target) (start sizes at) (ap (λ (k : ℕ). start sizes k) e))
  | inr ne ↦ ap (λ (b : Bool). if b then 3 else if nat_lt at target then forward (start sizes target - start sizes at) else backward (start sizes at - start sizes target)) (ne_eqb target at ne) ∙ elim (cases_lt at target) [
    | inl lt ↦
        let far : start sizes at < start sizes target = start_less sizes at target a lt inside in
        let d : (pos (start sizes target) -ℤ pos (start sizes at)) ≡ pos (start sizes target - start sizes at) = omega (arith, ints, far) in
        ap (λ (b : Bool). if b then forward (start sizes target - start sizes at) else backward (start sizes at - start sizes target)) (lt-ltb at target lt) ∙ (sym (forward_long (start sizes target - start sizes at) (omega (arith, far))) ∙ ap (λ (z : ℤ). format_units (shortest_goto z)) (sym d))
    | inr le ↦
        let far : start sizes target < start sizes at = start_less sizes target at a (below target at le ne) in_target in
        let n : ℕ = start sizes at - start sizes target - 1 in
        let one : suc n ≡ start sizes at - start sizes target = omega (arith, far) in
        let d : (pos (start sizes target) -ℤ pos (start sizes at)) ≡ negsuc n = omega (arith, ints, far) in
        ap (λ (b : Bool). if b then forward (start sizes target - start sizes at) else backward (start sizes at - start sizes target)) (le-ltb at target le) ∙ (ap backward (sym one) ∙ (sym (backward_long n) ∙ ap (λ (z : ℤ). format_units (shortest_goto z)) (sym d)))
  ]
]
  where
    below : (a b : ℕ) → a ≤ b → (a ≡ b → ⊥) → a < b
    below a b le ne = elim (cases_lt a b) [ inl lt ↦ lt | inr ge ↦ absurd (ne (omega (arith, le, ge))) ]

-- where a goto goes to is a position
abbrev pub GoesIn : ℕ → Insn → Type 0
GoesIn n (Goto target) = target < n
GoesIn n insn = Unit {0}

pub need_long : (r : Renumber) (sizes : List ℕ) (at to : ℕ) (x : Insn) → AllSome sizes → at < length sizes → GoesIn (length sizes) x → ((target : ℕ) → x ≡ Goto target → to ≡ start sizes target) → NumbersFit r x
    → need sizes at (step_of r x) ≡ format_units (shortest (new_insn r x) (distance (new_insn r x) (start sizes at) to))
need_long r sizes at to (Goto target) a inside goes is n = goto_long sizes at target a inside goes ∙ ap (λ (k : ℕ). format_units (shortest_goto (pos k -ℤ pos (start sizes at)))) (sym (is target refl))
need_long r sizes at to (ConstString t string) a inside goes is n = ap (λ (k : ℕ). format_units (shortest_string k)) n.same
need_long r sizes at to x a inside goes is n = refl

pub steps_same : (r : Renumber) (x : Insn) → NumbersFit r x → step_of r x ≡ new_step (new_insn r x)
steps_same r (ConstString t string) n = ap (λ (k : ℕ). Fixed (format_units (shortest_string k))) n.same
steps_same r x n = refl

-- an instruction that is no goto needs a unit at least, and so does a goto
some_forward : (n : ℕ) → 0 < forward n
some_forward n = by (nat_le n 127) (nat_le n 32767)
  where
    by : (a b : Bool) → 0 < (if a then 1 else if b then 2 else 3)
    by true b = omega arith
    by false true = omega arith
    by false false = omega arith

some_backward : (n : ℕ) → 0 < backward n
some_backward n = by (nat_le n 128) (nat_le n 32768)
  where
    by : (a b : Bool) → 0 < (if a then 1 else if b then 2 else 3)
    by true b = omega arith
    by false true = omega arith
    by false false = omega arith

pub some_need : (r : Renumber) (sizes : List ℕ) (at : ℕ) (x : Insn) → 0 < need sizes at (step_of r x)
some_need r sizes at (Goto target) = by (nat_eq target at) (nat_lt at target)
  where
    by : (a b : Bool) → 0 < (if a then 3 else if b then forward (start sizes target - start sizes at) else backward (start sizes at - start sizes target))
    by true b = omega arith
    by false true = some_forward (start sizes target - start sizes at)
    by false false = some_backward (start sizes at - start sizes target)
some_need r sizes at (ConstString t string) = small_units (shortest_string _)
some_need r sizes at x = small_units (shortest x (pos 0))

pub needs_some : (r : Renumber) (sizes : List ℕ) (at : ℕ) (xs : List Insn) → AllSome (needs sizes at (map (step_of r) xs))
needs_some r sizes at [] = tt
needs_some r sizes at (x ∷ xs) = (some_need r sizes at x, needs_some r sizes (suc at) xs)
