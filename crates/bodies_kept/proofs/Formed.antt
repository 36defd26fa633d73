-- A propagated program is well-formed.
use Rattle.std.proofs.Common.{◌≡◌, ◌⊎◌, inl, inr, ℕ, suc, ◌+◌, Bool, true, false, true≢false, List, [], ◌∷◌, ◌++◌, length, Option, Some, None, refl, sym, ap, ◌∙◌, subst, arith}
use Rattle.std.specs.Prelude.{◌&&◌, if◌then◌else◌, nat_eq, nat_le, map, slice_get, All}
use Rattle.std.specs.List.{list_any}
use Rattle.std.proofs.lemmas.List.Elements.{All-nil, All-cons, All-head, All-tail}
use Rattle.insn_set.specs.Spelling.{is_encodable}
use Rattle.insn_set.specs.Widths.{is_wide_slot, compares_wide, binary_is_wide, second_is_wide}
use Rattle.insn_set.specs.declared.ops.Slot.{Slot}
use Rattle.insn_set.specs.declared.form.Insn.{Insn}
use Rattle.insn_set.specs.declared.form.Insn.TheVariants as insn
use Rattle.program_model.specs.OperandRules.{registers_fit}
use Rattle.program_model.specs.ProgramRules.{is_well_formed}
use Rattle.program_model.specs.declared.body.Body.{Body}
use Rattle.program_model.specs.declared.program.Method.{Method}
use Rattle.program_model.specs.declared.program.Class.{Class}
use Rattle.program_model.specs.declared.program.Program.{Program}
use Rattle.hierarchy.specs.Shapes.{IsResolved}
use Rattle.hierarchy.specs.declared.build.Hierarchy.{Hierarchy}
use Rattle.program_laws.proofs.ChangedLists.{and_left}
use Rattle.program_laws.specs.Others.{Pairwise}
use Rattle.insn_regs.specs.Remade.{remade}
use Rattle.insn_regs.specs.Wides.{first_if, widths_of}
use Rattle.bodies_kept.proofs.Remaking.{remade_alike}
use Rattle.walk_marks.specs.Walks.{is_on}
use Rattle.body_graph.specs.Walks.{insn_at}
use Rattle.compact.specs.Narrow.{has_narrow_classes}
use Rattle.compact.specs.Renamed.{HasRegisters}
use Rattle.copy_prop.specs.Stale.{units}
use Rattle.copy_prop.specs.Stale.{IsStaleBy}
use Rattle.copy_prop.specs.Rereading.{IsReread}
use Rattle.copy_prop.specs.Rereading as pass
use Rattle.form_laws.specs.Reread.{Copied, substituted}
use Rattle.copy_prop.specs.Propagated.{IsPropagated, IsPropagatedMethod, IsPropagatedClass, IsPropagatedProgram}
use Rattle.copy_prop.specs.Propagated as propagated
use Rattle.thin_laws.specs.Rewritten.{IsRewritten, RewritesBody, RewrittenMethod, Untouched, Rewritten, RewrittenClass}
use Rattle.thin_laws.proofs.Rewriting.{rewritten_formed}
use Rattle.bodies_kept.proofs.Compacting.{has_registers}
use Rattle.verify.specs.declared.kinds.Kind.{Kind}
use Rattle.verify.specs.declared.kinds.Kind.TheVariants.{WideLow, WideHigh}
use Rattle.verify.specs.declared.setting.Setting.{Setting}
use Rattle.verify.specs.declared.typed.Verifier.{Verifier}
use Rattle.verify.specs.Demands.{unless, lower, is_number_or_pair}
use Rattle.verify.specs.Entry.{begun}
use Rattle.verify.specs.Frames.{Kinds, kind_at}
use Rattle.verify.specs.Kinds.{same_kind}
use Rattle.verify.specs.Methods.{constructs, receiver_of, HasTyping, TypesAll}
use Rattle.verify.specs.Names.{parameters_of}
use Rattle.verify.specs.Reads.{refused}
use Rattle.verify.specs.Typings.{Table}
use Rattle.verify.proofs.Lattice.{left_true}
use Rattle.verify.proofs.Reading.{unless_true, no_fault}
use Rattle.type_bridge.proofs.Bodies.{got_short}
use Rattle.bodies_kept.specs.Alike.{IsAlike}
use Rattle.bodies_kept.proofs.Pairs.{IsAmong, clash, only, first_or, two_wides, still_fits}
use Rattle.bodies_kept.proofs.Reached.{has_kinds}
use Rattle.bodies_kept.proofs.Alike.{alike_here}
use Rattle.bodies_kept.proofs.CopyTyping.{typings, own_narrow}

-- ---- lists

pairs_by : {A : Type 0} (S : A → A → Type 0) (xs ys : List A) → length ys ≡ length xs → ((n : ℕ) (x : A) → slice_get xs n ≡ Some x → (y : A) × (slice_get ys n ≡ Some y) × S x y) → Pairwise S xs ys
pairs_by S [] [] long each = tt
pairs_by S [] (y ∷ ys) long each = absurd (omega (arith, long))
pairs_by S (x ∷ xs) [] long each = absurd (omega (arith, long))
pairs_by {A} S (x ∷ xs) (y ∷ ys) long each =
    let u : (z : A) × (slice_get (y ∷ ys) 0 ≡ Some z) × S x z = each 0 x refl in
    let same : Some y ≡ Some u.0 = u.1 in
    let is : y ≡ u.0 = cc in
    (subst (λ z. S x z) (sym is) u.2, pairs_by S xs ys (let e : suc (length ys) ≡ suc (length xs) = long in omega (arith, e)) (λ k z h. each (suc k) z h))

-- ---- copies

same_list : (xs : List ℕ) → map (λ r. r) xs ≡ xs
same_list [] = refl
same_list (x ∷ xs) = ap (λ l. x ∷ l) (same_list xs)

remade_same : (f : Insn) → remade (λ r. r) (λ r. r) f ≡ f
remade_same (insn.FilledNewArray kind args) = ap (λ xs. insn.FilledNewArray kind xs) (same_list args)
remade_same (insn.Invoke kind method args) = ap (λ xs. insn.Invoke kind method xs) (same_list args)
remade_same insn.Nop = refl
remade_same f = refl

-- copies as the pass lists them, by what it asks of one
module _ {C : Type 0} (sub : List C → ℕ → ℕ) (at : C → ℕ) (slot : C → Slot) (to from : C → ℕ) (none : (r : ℕ) → sub [] r ≡ r)
    (more : (c : C) (cs : List C) (r : ℕ) → sub (c ∷ cs) r ≡ (if nat_eq r (to c) then from c else if is_wide_slot (slot c) && nat_eq r (to c + 1) then from c + 1 else sub cs r)) where
  abbrev copied : List C → List Copied
  copied cs = map (λ c. record { at = at c; slot = slot c; to = to c; from = from c }) cs

  same_reads : (cs : List C) (r : ℕ) → sub cs r ≡ substituted (copied cs) r
  same_reads [] r = none r
  same_reads (c ∷ cs) r = more c cs r ∙ ap (λ x. if nat_eq r (to c) then from c else if is_wide_slot (slot c) && nat_eq r (to c + 1) then from c + 1 else x) (same_reads cs r)

  all_among : (w : List (List Bool)) (b : Body) (n : ℕ) (i : Insn) (cs : List C) → All (λ c. IsStaleBy w b n i (at c) (slot c) (to c) (from c)) cs → All (IsAmong w b n i) (copied cs)
  all_among w b n i [] a = All-nil (IsAmong w b n i)
  all_among w b n i (c ∷ cs) a = All-cons (IsAmong w b n i) (record { at = at c; slot = slot c; to = to c; from = from c }) (copied cs)
      (All-head (λ c. IsStaleBy w b n i (at c) (slot c) (to c) (from c)) c cs a)
      (all_among w b n i cs (All-tail (λ c. IsStaleBy w b n i (at c) (slot c) (to c) (from c)) c cs a))

-- what an instruction reads, with the copies by which its reads are stale
record Reads (w : List (List Bool)) (b : Body) (n : ℕ) (f g : Insn) : Type 0 where
  copies : List Copied
  among : All (IsAmong w b n f) copies
  form : g ≡ remade (substituted copies) (λ r. r) f

reads_of_copies : (w : List (List Bool)) (b : Body) (n : ℕ) (f g : Insn) → IsReread w b n f g → Reads w b n f g
reads_of_copies w b n f g y = record {
  copies = copied pass.substituted (λ c. c.at) (λ c. c.slot) (λ c. c.to) (λ c. c.from) (λ r. refl) (λ c cs r. refl) y.copies;
  among = all_among pass.substituted (λ c. c.at) (λ c. c.slot) (λ c. c.to) (λ c. c.from) (λ r. refl) (λ c cs r. refl) w b n f y.copies y.stale;
  form = y.form ∙ remade_alike (pass.substituted y.copies) (substituted (copied pass.substituted (λ c. c.at) (λ c. c.slot) (λ c. c.to) (λ c. c.from) (λ r. refl) (λ c cs r. refl) y.copies)) (λ r. r)
      (same_reads pass.substituted (λ c. c.at) (λ c. c.slot) (λ c. c.to) (λ c. c.from) (λ r. refl) (λ c cs r. refl) y.copies) f;
}

-- ---- two wide operands

single_low : (v : Bool) (ks : List Kind) (a x : ℕ) → is_number_or_pair v ks a ≡ true → list_any (nat_eq x) (first_if v a) ≡ true → same_kind (kind_at ks x) WideLow ≡ true
single_low true ks a x e i = subst (λ y. same_kind (kind_at ks y) WideLow ≡ true) (sym (only x a i)) (left_true (same_kind (kind_at ks a) WideLow) (same_kind (kind_at ks (a + 1)) WideHigh) e)
single_low false ks a x e i = absurd (true≢false (sym i))

neither : (u v : Option ℕ) → lower u v ≡ None → (u ≡ None) × (v ≡ None)
neither None v e = (refl, e)
neither (Some r) None e = absurd (cc)
neither (Some r) (Some s) e = absurd (cc)

pair_low : (v u : Bool) (ks : List Kind) (a b x : ℕ) → lower (unless (is_number_or_pair v ks a) a) (unless (is_number_or_pair u ks b) b) ≡ None → list_any (nat_eq x) (first_if v a ++ first_if u b) ≡ true
    → same_kind (kind_at ks x) WideLow ≡ true
pair_low v u ks a b x e i =
    let n = neither (unless (is_number_or_pair v ks a) a) (unless (is_number_or_pair u ks b) b) e in
    elim (first_or v a x (first_if u b) i) as (λ t. same_kind (kind_at ks x) WideLow ≡ true) [
      | inl j ↦ single_low v ks a x (unless_true (is_number_or_pair v ks a) a n.0) j
      | inr j ↦ single_low u ks b x (unless_true (is_number_or_pair u ks b) b n.1) j
    ]

two_low : (s : Setting) (n : ℕ) (z : Kinds) (f : Insn) → refused s n z f ≡ None → (x : ℕ) → list_any (nat_eq x) (two_wides f) ≡ true → same_kind (kind_at z.registers x) WideLow ≡ true
two_low s n z (insn.Cmp op to a b) e x i = pair_low (compares_wide op) (compares_wide op) z.registers a b x e i
two_low s n z (insn.Binary op to a b) e x i = pair_low (binary_is_wide op) (second_is_wide op) z.registers a b x e i
two_low s n z insn.Nop e x i = absurd (true≢false (sym i))
two_low s n z f e x i = absurd (true≢false (sym i))

-- ---- bodies

module _ (p : Program) (h : Hierarchy) (w : is_well_formed p ≡ true) (r : IsResolved p h) (narrow : has_narrow_classes p ≡ true) (types : TypesAll p h) where
  abbrev v : Verifier
  v = types.verifier

  module _ (c : Class) (k : ℕ) (m : Method) (j : ℕ) (b : Body) (is_class : slice_get p.classes k ≡ Some c) (is_method : slice_get c.methods j ≡ Some m) (has : m.body ≡ Some b) (room : HasRegisters b) where
    abbrev table : Table
    table = (typings p h w r narrow types c k m j b is_class is_method has).table

    typing : HasTyping v c k m b table
    typing = (typings p h w r narrow types c k m j b is_class is_method has).types b has

    -- wide operands of an instruction don't overlap where a wide copy is read
    apart : (n : ℕ) (f : Insn) → insn_at b n ≡ Some f → (d : Copied) → IsAmong (widths_of p) b n f d → is_wide_slot d.slot ≡ true → list_any (nat_eq (d.to + 1)) (two_wides f) ≡ true → ⊥
    apart n f e d y wide i =
        let o = typing in
        let z = has_kinds o.setting b (begun o.setting b (receiver_of c k m (constructs v.tables m)) (parameters_of v.program.now m.name)) table o.least.typing n y.stands.reached (got_short b.insns n f e) in
        let alike : IsAlike d.slot d.to d.from z.0.registers =
        alike_here p h w r narrow v types.is c k m j b is_class is_method has room (own_narrow p h w r narrow types c k is_class) table o n z.0 z.1 d.at d.slot d.to d.from y.copy y.stands.apart y.stands.kept in
        let low = two_low o.setting n z.0 f (no_fault o.setting n z.0 f (o.least.typing.reads n f z.0 e z.1)).1 (d.to + 1) i in
        clash (same_kind (kind_at z.0.registers (d.to + 1)) WideLow) low (ap (λ x. same_kind x WideLow) (alike.wide wide).0.1)

    module _ (d : Body) (x : IsPropagated (widths_of p) b d) where
      rewritten : (n : ℕ) (f g : Insn) → insn_at b n ≡ Some f → IsReread (widths_of p) b n f g → IsRewritten b.registers d.registers f g
      rewritten n f g e y = record {
        reads = substituted z.copies;
        writes = λ r. r;
        form = z.form;
        encodable = encodable y.fits;
        registers = λ k. subst (λ n. registers_fit g n ≡ true) (sym x.registers)
            (subst (λ i. registers_fit i b.registers ≡ true) (sym z.form) (still_fits (widths_of p) b room n f (apart n f e) z.copies z.among k));
      }
        where
          z : Reads (widths_of p) b n f g
          z = reads_of_copies (widths_of p) b n f g y

          encodable : (y.copies ≡ []) ⊎ (pass.fits f g ≡ true) → is_encodable f ≡ true → is_encodable g ≡ true
          encodable (inl none) i = ap is_encodable (y.form ∙ ap (λ cs. pass.substitutes cs f) none ∙ remade_same f) ∙ i
          encodable (inr fit) i = and_left (is_encodable g) (nat_le (units g) (units f)) fit

      rewrites : RewritesBody b d
      rewrites = record {
        insns = pairs_by (IsRewritten b.registers d.registers) b.insns d.insns x.long (λ n f e. let u = x.insns n f e in (u.0, u.1, rewritten n f u.0 e u.2));
        regions = x.regions;
        ins = x.ins;
        registers = (let e = x.registers in omega (arith, e));
        frame = λ l. (let e = x.registers in let i = x.ins in omega (arith, e, i, l));
      }

  -- ---- programs

  still : (m : Method) (o : Option Body) → o ≡ m.body → RewrittenMethod p m (record m { body = o })
  still m o e = subst (λ x. RewrittenMethod p m (record m { body = x })) (sym e) (Untouched m)

  module _ (admitted : List Bool) where
    by_code : (c : Class) (k : ℕ) (m : Method) (j : ℕ) → slice_get p.classes k ≡ Some c → slice_get c.methods j ≡ Some m → (t : Bool) (a o : Option Body) → m.body ≡ a → propagated.RewritesBody (widths_of p) t a o
        → RewrittenMethod p m (record m { body = o })
    by_code c k m j ec em true (Some b) (Some d) e x = Rewritten m b d e (λ f. rewrites c k m j b ec em e (has_registers p b f) d x)
    by_code c k m j ec em true (Some b) None e x = absurd x
    by_code c k m j ec em true None (Some d) e x = still m (Some d) (x ∙ sym e)
    by_code c k m j ec em true None None e x = still m None (x ∙ sym e)
    by_code c k m j ec em false (Some b) (Some d) e x = still m (Some d) (x ∙ sym e)
    by_code c k m j ec em false (Some b) None e x = still m None (x ∙ sym e)
    by_code c k m j ec em false None (Some d) e x = still m (Some d) (x ∙ sym e)
    by_code c k m j ec em false None None e x = still m None (x ∙ sym e)

    method_rewritten : (c : Class) (k : ℕ) (m n : Method) (j : ℕ) → slice_get p.classes k ≡ Some c → slice_get c.methods j ≡ Some m → IsPropagatedMethod (widths_of p) admitted m n → RewrittenMethod p m n
    method_rewritten c k m n j ec em i = subst (RewrittenMethod p m) (sym i.rest) (by_code c k m j ec em (is_on admitted m.name) m.body n.body refl i.body)

    class_rewritten : (c d : Class) (k : ℕ) → slice_get p.classes k ≡ Some c → IsPropagatedClass (widths_of p) admitted c d → RewrittenClass p c d
    class_rewritten c d k ec i = record {
      same = i.rest;
      methods = pairs_by (RewrittenMethod p) c.methods d.methods i.methods.long (λ j m em. let u = i.methods.each j m em in (u.0, u.1, method_rewritten c k m u.0 j ec em u.2));
    }

    pub propagated_formed : (q : Program) → IsPropagatedProgram admitted p q → is_well_formed q ≡ true
    propagated_formed q i = rewritten_formed p q w (record {
      same = i.rest;
      classes = pairs_by (RewrittenClass p) p.classes q.classes i.classes.long (λ k c ec. let u = i.classes.each k c ec in (u.0, u.1, class_rewritten c u.0 k ec u.2));
    })
