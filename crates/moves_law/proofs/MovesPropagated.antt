-- Propagation of copies lowers the sum of the Moves.
use Rattle.std.proofs.Common.{◌≡◌, ◌⊎◌, inl, inr, ℕ, suc, ◌<◌, ◌≤◌, Bool, true, false, List, [], ◌∷◌, length, map, Option, Some, None, refl, sym, ap, ◌∙◌, subst, arith}
use Rattle.std.specs.Prelude.{sum_by, slice_get, All}
use Rattle.std.proofs.lemmas.List.{map-id}
use Rattle.std.proofs.lemmas.List.Elements.{All-head}
use Rattle.insn_set.specs.declared.form.Insn.{Insn}
use Rattle.insn_set.specs.declared.form.Insn.TheVariants as insn
use Rattle.program_model.specs.declared.body.Body.{Body}
use Rattle.program_model.specs.declared.program.Method.{Method}
use Rattle.program_model.specs.declared.program.Class.{Class}
use Rattle.program_model.specs.declared.program.Program.{Program}
use Rattle.insn_regs.specs.Remade.{remade, operands_of}
use Rattle.insn_regs.specs.Wides.{widths_of}
use Rattle.walk_marks.specs.Walks.{is_on}
use Rattle.body_graph.specs.Walks.{insn_at}
use Rattle.body_graph.proofs.Members.{get_some}
use Rattle.copy_prop.specs.Rereading.{IsReread, substituted, substitutes}
use Rattle.copy_prop.specs.Searches.{IsAmong}
use Rattle.copy_prop.specs.Propagated.{IsPropagated, AreEach, RewritesBody, IsPropagatedMethod, IsPropagatedClass, IsPropagatedProgram}
use Rattle.moves_law.specs.Histories.{Step, IsPath, moves, ReadsNoLater}
use Rattle.moves_law.proofs.Fewer as histories
use Rattle.moves_law.proofs.HistoriesPropagated.{reads_no_later}
use Rattle.moves_law.proofs.Falling.{kept, same_or_falls}
use Rattle.moves_law.specs.Paths.{path_to}
use Rattle.moves_law.specs.Measure.{moved_along, moves_at, moves_below, body_moves, method_moves, class_moves, moves_in}
use Rattle.moves_law.proofs.Lists.{no_some}
use Rattle.moves_law.proofs.Paths.{is_path, has_path}
use Rattle.moves_law.proofs.Shapes.{Renames, nothing, same_path}
use Rattle.moves_law.proofs.MoveSums.{NoMore, itself, fewer, added, mapped_most, some_most, below_most, below_same, same_body}

operands_map : (s : ℕ → ℕ) (f : Insn) → operands_of (remade s (λ r. r) f) ≡ map s (operands_of f)
operands_map s insn.Nop = refl
operands_map s f = refl

none_or_some : {C : Type 0} (xs : List C) → (xs ≡ []) ⊎ ((c : C) × (cs : List C) × (xs ≡ c ∷ cs))
none_or_some [] = inl refl
none_or_some (c ∷ cs) = inr (c, cs, refl)

module _ (w : List (List Bool)) (b d : Body) (x : IsPropagated w b d) where
  abbrev reads : ReadsNoLater b d
  reads = reads_no_later w b d x

  renames : Renames b d
  renames = record { read = reads.new; written = λ n r. r; long = x.long; regions = x.regions; insns = reads.insns }

  -- the sum at a position, by the paths of the first body
  abbrev sum_at : ℕ → ℕ
  sum_at n = moved_along d (path_to b n) (insn_at d n)

  sum_is : (n : ℕ) → moves_at d n ≡ sum_at n
  sum_is n = ap (λ o. moved_along d o (insn_at d n)) (same_path b d renames n)

  no_more : (n : ℕ) (o : Option (List Step)) (i : Option Insn) → path_to b n ≡ o → insn_at b n ≡ i → moved_along d o (insn_at d n) ≤ moved_along b o i
  no_more n None i e h = omega arith
  no_more n (Some ss) None e h = subst (λ o. moved_along d (Some ss) o ≤ 0) (sym (nothing b d renames n h)) (omega arith)
  no_more n (Some ss) (Some f) e h =
      let path : IsPath b ss n = is_path b n ss e in
      let s = reads.new n in
      subst (λ o. moved_along d (Some ss) o ≤ sum_by (moves b ss) (operands_of f)) (sym (reads.insns n f h))
      (subst (λ l. sum_by (moves d ss) l ≤ sum_by (moves b ss) (operands_of f)) (sym (operands_map s f))
      (mapped_most (moves d ss) (moves b ss) s (λ r. omega (arith, histories.fewer b d reads ss n path (s r), reads.fewer ss n path r)) (operands_of f)))

  each_most : (n : ℕ) → moves_at d n ≤ moves_at b n
  each_most n = subst (λ k. k ≤ moves_at b n) (sym (sum_is n)) (no_more n (path_to b n) (insn_at b n) refl refl)

  -- ---- where nothing falls

  -- without a path nothing is stale
  unreached : (n : ℕ) (f g : Insn) → path_to b n ≡ None → IsReread w b n f g → g ≡ f
  unreached n f g e y = elim (none_or_some y.copies) [
    | inl i ↦ y.form ∙ ap (λ cs. substitutes cs f) i ∙ kept (substituted []) f (map-id (operands_of f))
    | inr i ↦ (let u = has_path b n (All-head (IsAmong w b n f) i.0 i.1 (subst (λ cs. All (IsAmong w b n f) cs) i.2 y.stale)).stands.reached in no_some u.0 (sym e ∙ u.1))
  ]

  -- where the sum doesn't fall, nothing changes
  unchanged : (n : ℕ) (f g : Insn) → insn_at b n ≡ Some f → insn_at d n ≡ Some g → IsReread w b n f g → (o : Option (List Step)) → path_to b n ≡ o → moved_along d o (Some g) ≡ moved_along b o (Some f) → g ≡ f
  unchanged n f g e i y None p s = unreached n f g p y
  unchanged n f g e i y (Some ss) p s =
      let path : IsPath b ss n = is_path b n ss p in
      elim (same_or_falls w b d x n f g e i ss path) [
        | inl k ↦ k
        | inr l ↦ absurd (omega (arith, l, s, some_most (moves d ss) (moves b ss) (histories.fewer b d reads ss n path) (operands_of g)))
      ]

  settled : (n : ℕ) → n < length b.insns → moves_at d n ≡ moves_at b n → slice_get d.insns n ≡ slice_get b.insns n
  settled n lt s =
      let u = get_some b.insns n lt in
      let v = x.insns n u.0 u.1 in
      let sums : moved_along d (path_to b n) (Some v.0) ≡ moved_along b (path_to b n) (Some u.0) =
      sym (ap (moved_along d (path_to b n)) v.1) ∙ sym (sum_is n) ∙ s ∙ ap (moved_along b (path_to b n)) u.1 in
      v.1 ∙ ap Some (unchanged n u.0 v.0 u.1 v.1 v.2 (path_to b n) refl sums) ∙ sym u.1

  body_falls : NoMore body_moves (Some b) (Some d)
  body_falls = record {
    most = subst (λ k. moves_below d k ≤ moves_below b (length b.insns)) (sym x.long) (below_most b d each_most (length b.insns));
    same = λ e.
        let sums : moves_below d (length b.insns) ≡ moves_below b (length b.insns) = ap (moves_below d) (sym x.long) ∙ e in
        ap Some (same_body b d x.registers x.ins x.regions x.long (λ n lt. settled n lt (below_same b d each_most (length b.insns) sums n lt)));
  }

-- ---- programs

code_falls : (w : List (List Bool)) (t : Bool) (a o : Option Body) → RewritesBody w t a o → NoMore body_moves a o
code_falls w true (Some b) (Some d) r = body_falls w b d r
code_falls w true (Some b) None r = absurd r
code_falls w true None (Some d) r = itself body_moves None (Some d) r
code_falls w true None None r = itself body_moves None None r
code_falls w false (Some b) (Some d) r = itself body_moves (Some b) (Some d) r
code_falls w false (Some b) None r = itself body_moves (Some b) None r
code_falls w false None (Some d) r = itself body_moves None (Some d) r
code_falls w false None None r = itself body_moves None None r

module _ {A : Type 0} (R : A → A → Type 0) (g : A → ℕ) (one : (x y : A) → R x y → NoMore g x y) where
  sums : (xs ys : List A) → AreEach R xs ys → NoMore (λ l. sum_by g l) xs ys
  sums [] [] a = itself (λ l. sum_by g l) [] [] refl
  sums [] (y ∷ ys) a = absurd (let e : length (y ∷ ys) ≡ 0 = a.long in omega (arith, e))
  sums (x ∷ xs) [] a = absurd (let e : 0 ≡ length (x ∷ xs) = a.long in omega (arith, e))
  sums (x ∷ xs) (y ∷ ys) a =
      let u : (z : A) × (slice_get (y ∷ ys) 0 ≡ Some z) × R x z = a.each 0 x refl in
      let same : Some y ≡ Some u.0 = u.1 in
      let is : y ≡ u.0 = cc in
      added g x y xs ys (one x y (subst (λ z. R x z) (sym is) u.2))
      (sums xs ys (record { long = (let e : suc (length ys) ≡ suc (length xs) = a.long in omega (arith, e)); each = λ k z h. a.each (suc k) z h }))

module _ (w : List (List Bool)) (admitted : List Bool) where
  method_falls : (m n : Method) → IsPropagatedMethod w admitted m n → NoMore method_moves m n
  method_falls m n i = let h = code_falls w (is_on admitted m.name) m.body n.body i.body in
      record { most = h.most; same = λ e. i.rest ∙ ap (λ o. record m { body = o }) (h.same e) }

  class_falls : (c d : Class) → IsPropagatedClass w admitted c d → NoMore class_moves c d
  class_falls c d i = let h = sums (IsPropagatedMethod w admitted) method_moves method_falls c.methods d.methods i.methods in
      record { most = h.most; same = λ e. i.rest ∙ ap (λ ms. record c { methods = ms }) (h.same e) }

program_falls : (admitted : List Bool) (p q : Program) → IsPropagatedProgram admitted p q → NoMore moves_in p q
program_falls admitted p q i = let h = sums (IsPropagatedClass (widths_of p) admitted) class_moves (class_falls (widths_of p) admitted) p.classes q.classes i.classes in
    record { most = h.most; same = λ e. i.rest ∙ ap (λ cs. record p { classes = cs }) (h.same e) }

pub propagated_no_more : (admitted : List Bool) (p q : Program) → IsPropagatedProgram admitted p q → moves_in q ≤ moves_in p
propagated_no_more admitted p q i = (program_falls admitted p q i).most

pub propagated_fewer : (admitted : List Bool) (p q : Program) → IsPropagatedProgram admitted p q → (q ≡ p → ⊥) → moves_in q < moves_in p
propagated_fewer admitted p q i differs = fewer moves_in p q (program_falls admitted p q i) differs
