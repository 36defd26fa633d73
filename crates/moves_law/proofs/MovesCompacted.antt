-- Other numbers of registers leave the sum of the Moves the same, since no two registers whose values are read share one.
use Rattle.std.proofs.Common.{◌≡◌, ℕ, zero, suc, ◌+◌, Bool, true, false, true≢false, nat_eq, List, [], ◌∷◌, length, map, Option, Some, None, Contains, refl, sym, ap, ◌∙◌, subst, arith, eqb-true, eq-eqb}
use Rattle.std.specs.Prelude.{◌&&◌, if◌then◌else◌, sum_by, slice_get}
use Rattle.std.proofs.lemmas.Bool.{or_right}
use Rattle.std.proofs.lemmas.List.{length-map}
use Rattle.std.proofs.lemmas.List.Sums.{sum_by-cons}
use Rattle.insn_set.specs.Registers.{in_operand, reads_of, writes_of}
use Rattle.insn_set.specs.Widths.{is_wide_slot}
use Rattle.insn_set.specs.declared.form.Insn.{Insn}
use Rattle.insn_set.specs.declared.form.Insn.TheVariants as insn
use Rattle.program_model.specs.declared.body.Body.{Body}
use Rattle.program_model.specs.declared.program.Method.{Method}
use Rattle.program_model.specs.declared.program.Class.{Class}
use Rattle.program_model.specs.declared.program.Program.{Program}
use Rattle.insn_regs.specs.Remade.{remade, operands_of}
use Rattle.insn_regs.specs.Wides.{first_if, widths_of}
use Rattle.walk_marks.specs.Walks.{is_on}
use Rattle.body_graph.specs.Walks.{insn_at, onward, IsReadAt, IsRead}
use Rattle.body_graph.proofs.Members.{first, there}
use Rattle.moves_law.specs.Histories as history
use Rattle.moves_law.specs.Histories.{Step, IsPath, left_by, moves}
use Rattle.compact.specs.Packed.{Conflict}
use Rattle.compact.specs.Renamed.{IsCompacted, AreEach, RewritesBody, IsCompactedMethod, IsCompactedClass, IsCompactedProgram}
use Rattle.moves_law.specs.Paths.{path_to}
use Rattle.moves_law.specs.Measure.{moved_along, moves_at, moves_below, body_moves, method_moves, class_moves, moves_in}
use Rattle.moves_law.proofs.Lists.{some_same, no_some, untrue, either}
use Rattle.moves_law.proofs.Paths.{is_path}
use Rattle.moves_law.proofs.Shapes.{Renames, nothing, same_path}
use Rattle.moves_law.proofs.MoveSums.{below_equal}
use Rattle.moves_law.proofs.Written.{first_in, wide_one, Paired, any_front, any_back, written_on, written_back, operand_read}

-- ---- a step

pick_first : (x : Bool) (a b : ℕ) → x ≡ true → (if x then a else b) ≡ a
pick_first true a b e = refl
pick_first false a b e = absurd (true≢false (sym e))

pick_second : (x : Bool) (a b : ℕ) → x ≡ false → (if x then a else b) ≡ b
pick_second true a b e = absurd (true≢false e)
pick_second false a b e = refl

-- the register that a copy of so many registers was read from
abbrev source : Bool → ℕ → ℕ → ℕ → ℕ
source v to from r = if nat_eq r to then from else if v && nat_eq r (to + 1) then from + 1 else r

source_first : (v : Bool) (to from r : ℕ) → nat_eq r to ≡ true → source v to from r ≡ from
source_first v to from r e = pick_first (nat_eq r to) from (if v && nat_eq r (to + 1) then from + 1 else r) e

source_second : (to from r : ℕ) → nat_eq r (to + 1) ≡ true → source true to from r ≡ from + 1
source_second to from r e =
    pick_second (nat_eq r to) from (if nat_eq r (to + 1) then from + 1 else r) (untrue (nat_eq r to) (λ z. let i = eqb-true r to z in let j = eqb-true r (to + 1) e in omega (arith, i, j)))
    ∙ pick_first (nat_eq r (to + 1)) (from + 1) r e

-- it is one of those that are read
source_read : (v : Bool) (to from r : ℕ) → in_operand v to r ≡ true → in_operand v from (source v to from r) ≡ true
source_read false to from r e = subst (λ z. nat_eq z from ≡ true) (sym (source_first false to from r e)) (eq-eqb from from refl)
source_read true to from r e = either (nat_eq r to) (nat_eq r (to + 1)) e
    (λ i. subst (λ z. in_operand true from z ≡ true) (sym (source_first true to from r i)) (first_in true from))
    (λ i. subst (λ z. in_operand true from z ≡ true) (sym (source_second to from r i)) (or_right (nat_eq (from + 1) from) (nat_eq (from + 1) (from + 1)) (eq-eqb (from + 1) (from + 1) refl)))

-- the source by new numbers is the new number of the source
source_same : (g : ℕ → ℕ) (v : Bool) (to from r : ℕ) → (v ≡ true → g (to + 1) ≡ g to + 1) → (v ≡ true → g (from + 1) ≡ g from + 1) → in_operand v to r ≡ true → source v (g to) (g from) (g r) ≡ g (source v to from r)
source_same g false to from r p q e =
    source_first false (g to) (g from) (g r) (eq-eqb (g r) (g to) (ap g (eqb-true r to e))) ∙ sym (ap g (source_first false to from r e))
source_same g true to from r p q e = either (nat_eq r to) (nat_eq r (to + 1)) e
    (λ i. source_first true (g to) (g from) (g r) (eq-eqb (g r) (g to) (ap g (eqb-true r to i))) ∙ sym (ap g (source_first true to from r i)))
    (λ i. source_second (g to) (g from) (g r) (eq-eqb (g r) (g to + 1) (ap g (eqb-true r (to + 1) i) ∙ p refl)) ∙ sym (q refl) ∙ sym (ap g (source_second to from r i)))

module _ (w : List (List Bool)) (g h k : ℕ → ℕ) where
  -- what is written went through as many Moves, where what is read did
  written_same : (f : Insn) (r : ℕ) → Paired w g f → writes_of f r ≡ true → ((q : ℕ) → reads_of f q ≡ true → h (g q) ≡ k q) → history.written (remade g g f) h (g r) ≡ history.written f k r
  written_same (insn.Move slot to from) r paired e same =
      let ws = first_if (is_wide_slot slot) to in
      let rs = first_if (is_wide_slot slot) from in
      ap suc (ap h (source_same g (is_wide_slot slot) to from r
      (λ v. paired to (any_front to ws rs (wide_one (is_wide_slot slot) to v)))
      (λ v. paired from (any_back from ws rs (wide_one (is_wide_slot slot) from v))) e)
      ∙ same (source (is_wide_slot slot) to from r) (source_read (is_wide_slot slot) to from r e))
  written_same insn.Nop r paired e same = refl
  written_same f r paired e same = refl

  left_same : (f : Insn) (r : ℕ) → Paired w g f → ((q : ℕ) → reads_of f q ≡ true → h (g q) ≡ k q) → (writes_of f r ≡ false → (h (g r) ≡ k r) × (writes_of (remade g g f) (g r) ≡ false))
      → left_by (Some (remade g g f)) h (g r) ≡ left_by (Some f) k r
  left_same f r paired same stays = by (writes_of f r) refl
    where
      by : (v : Bool) → writes_of f r ≡ v → left_by (Some (remade g g f)) h (g r) ≡ left_by (Some f) k r
      by true e =
          pick_first (writes_of (remade g g f) (g r)) (history.written (remade g g f) h (g r)) (h (g r)) (written_on w g f paired r e)
          ∙ written_same f r paired e same
          ∙ sym (pick_first (writes_of f r) (history.written f k r) (k r) e)
      by false e =
          pick_second (writes_of (remade g g f) (g r)) (history.written (remade g g f) h (g r)) (h (g r)) (stays e).1
          ∙ (stays e).0
          ∙ sym (pick_second (writes_of f r) (history.written f k r) (k r) e)

-- ---- bodies

get_map : {A B : Type 0} (f : A → B) (xs : List A) (n : ℕ) (x : A) → slice_get xs n ≡ Some x → slice_get (map f xs) n ≡ Some (f x)
get_map f [] n x e = no_some x e
get_map f (y ∷ ys) zero x e = ap (λ z. Some (f z)) (some_same y x e)
get_map f (y ∷ ys) (suc n) x e = get_map f ys n x e

operands_map : (g : ℕ → ℕ) (f : Insn) → operands_of (remade g g f) ≡ map g (operands_of f)
operands_map g insn.Nop = refl
operands_map g f = refl

mapped_same : (h k s : ℕ → ℕ) (xs : List ℕ) → ((x : ℕ) → Contains xs x → h (s x) ≡ k x) → sum_by h (map s xs) ≡ sum_by k xs
mapped_same h k s [] each = refl
mapped_same h k s (x ∷ xs) each =
    let head : h (s x) ≡ k x = each x (first x xs) in
    let tail : sum_by h (map s xs) ≡ sum_by k xs = mapped_same h k s xs (λ y c. each y (there x xs y c)) in
    omega (arith, head, tail, sum_by-cons h (s x) (map s xs), sum_by-cons k x xs)

module _ (w : List (List Bool)) (b d : Body) (c : IsCompacted w b d) where
  at_place : (n : ℕ) (f : Insn) → insn_at b n ≡ Some f → insn_at d n ≡ Some (remade c.new c.new f)
  at_place n f e = ap (λ l. slice_get l n) c.insns ∙ get_map (remade c.new c.new) b.insns n f e

  renames : Renames b d
  renames = record {
    read = λ n. c.new;
    written = λ n. c.new;
    long = ap length c.insns ∙ length-map b.insns (remade c.new c.new);
    regions = c.regions;
    insns = at_place;
  }

  paired : (n : ℕ) (f : Insn) → insn_at b n ≡ Some f → Paired w c.new f
  paired n f e = λ at i. c.pairs n at f e i

  -- what is read behind an instruction that doesn't write it has a number that isn't written there
  unwritten : (n m r : ℕ) (f : Insn) → insn_at b n ≡ Some f → Contains (onward f n) m → IsRead b r m → writes_of f r ≡ false → writes_of (remade c.new c.new f) (c.new r) ≡ false
  unwritten n m r f e goes read none = untrue (writes_of (remade c.new c.new f) (c.new r)) (λ z.
      let u = written_back w c.new f (paired n f e) r z in
      let s = c.apart u.0 r (Conflict.First (record { position = n; form = f; next = m; has_form = e; writes_it = u.1; goes = goes; read = read })) u.2 in
      true≢false (sym u.1 ∙ ap (writes_of f) s ∙ none))

  -- what a register holds that is still read went through as many Moves, under its new number
  pub same_history : (ss : List Step) (n : ℕ) → IsPath b ss n → (r : ℕ) → IsRead b r n → moves d ss (c.new r) ≡ moves b ss r
  same_history _ _ IsPath.Begins r h = refl
  same_history _ _ (IsPath.On ss n m f p e i) r h =
      ap (λ o. left_by o (moves d ss) (c.new r)) (at_place n f e)
      ∙ left_same w c.new (moves d ss) (moves b ss) f r (paired n f e)
      (λ q z. same_history ss n p q (n, IsReadAt.Here n f e z))
      (λ z. (same_history ss n p r (h.0, IsReadAt.Onward n m h.0 f e z i h.1), unwritten n m r f e i h z))
      ∙ sym (ap (λ o. left_by o (moves b ss) r) e)
  same_history _ _ (IsPath.Thrown ss n m f p e i) r h = same_history ss n p r (h.0, IsReadAt.Caught n m h.0 f e i h.1)

  along : (n : ℕ) (o : Option (List Step)) (i : Option Insn) → path_to b n ≡ o → insn_at b n ≡ i → moved_along d o (insn_at d n) ≡ moved_along b o i
  along n None i e h = refl
  along n (Some ss) None e h = ap (moved_along d (Some ss)) (nothing b d renames n h)
  along n (Some ss) (Some f) e h =
      ap (moved_along d (Some ss)) (at_place n f h)
      ∙ ap (sum_by (moves d ss)) (operands_map c.new f)
      ∙ mapped_same (moves d ss) (moves b ss) c.new (operands_of f) (λ x i. same_history ss n (is_path b n ss e) x (n, IsReadAt.Here n f h (operand_read f x i)))

  each_same : (n : ℕ) → moves_at d n ≡ moves_at b n
  each_same n = ap (λ o. moved_along d o (insn_at d n)) (same_path b d renames n) ∙ along n (path_to b n) (insn_at b n) refl refl

  body_same : body_moves (Some d) ≡ body_moves (Some b)
  body_same = ap (moves_below d) renames.long ∙ below_equal b d each_same (length b.insns)

-- ---- programs

code_same : (w : List (List Bool)) (t : Bool) (a o : Option Body) → RewritesBody w t a o → body_moves o ≡ body_moves a
code_same w true (Some b) (Some d) r = body_same w b d r
code_same w true (Some b) None r = absurd r
code_same w true None (Some d) r = ap body_moves r
code_same w true None None r = refl
code_same w false (Some b) (Some d) r = ap body_moves r
code_same w false (Some b) None r = ap body_moves r
code_same w false None (Some d) r = ap body_moves r
code_same w false None None r = refl

module _ {A : Type 0} (R : A → A → Type 0) (g : A → ℕ) (one : (x y : A) → R x y → g y ≡ g x) where
  added : (x y : A) (xs ys : List A) → g y ≡ g x → sum_by g ys ≡ sum_by g xs → sum_by g (y ∷ ys) ≡ sum_by g (x ∷ xs)
  added x y xs ys e f = omega (arith, e, f, sum_by-cons g y ys, sum_by-cons g x xs)

  same_sums : (xs ys : List A) → AreEach R xs ys → sum_by g ys ≡ sum_by g xs
  same_sums [] [] a = refl
  same_sums [] (y ∷ ys) a = absurd (let e : length (y ∷ ys) ≡ 0 = a.long in omega (arith, e))
  same_sums (x ∷ xs) [] a = absurd (let e : 0 ≡ length (x ∷ xs) = a.long in omega (arith, e))
  same_sums (x ∷ xs) (y ∷ ys) a =
      let u : (z : A) × (slice_get (y ∷ ys) 0 ≡ Some z) × R x z = a.each 0 x refl in
      let same : Some y ≡ Some u.0 = u.1 in
      let is : y ≡ u.0 = cc in
      added x y xs ys (one x y (subst (λ z. R x z) (sym is) u.2))
      (same_sums xs ys (record { long = (let e : suc (length ys) ≡ suc (length xs) = a.long in omega (arith, e)); each = λ k z h. a.each (suc k) z h }))

module _ (w : List (List Bool)) (admitted : List Bool) where
  method_same : (m n : Method) → IsCompactedMethod w admitted m n → method_moves n ≡ method_moves m
  method_same m n i = code_same w (is_on admitted m.name) m.body n.body i.body

  class_same : (c d : Class) → IsCompactedClass w admitted c d → class_moves d ≡ class_moves c
  class_same c d i = same_sums (IsCompactedMethod w admitted) method_moves method_same c.methods d.methods i.methods

pub compacted_same : (admitted : List Bool) (p q : Program) → IsCompactedProgram admitted p q → moves_in q ≡ moves_in p
compacted_same admitted p q i = same_sums (IsCompactedClass (widths_of p) admitted) class_moves (class_same (widths_of p) admitted) p.classes q.classes i.classes
