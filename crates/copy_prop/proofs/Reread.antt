-- Bodies whose instructions were reread.
use Rattle.std.proofs.Common.{◌≡◌, ℕ, zero, suc, ◌+◌, ◌<◌, ◌≤◌, ◌^◌, Bool, true, false, List, [], ◌∷◌, length, get_or, Some, None, Option, refl, sym, ap, ◌∙◌, subst, arith, ◌⊎◌, inl, inr}
use Rattle.std.proofs.Math.ListN.{set}
use Rattle.std.specs.Prelude.{◌&&◌, ◌||◌, nat_eq, nat_le, if◌then◌else◌, slice_get, slice_index_or, All}
use Rattle.std.proofs.lemmas.Bool.{cases_eq, cases_lt, and_from, or_left, eq-eqb, le-leb, true≢false, eqb-true}
use Rattle.std.proofs.lemmas.List.{length-set}
use Rattle.std.proofs.lemmas.List.Elements.{All-nil, All-cons, All-head}
use Rattle.std.proofs.lemmas.Option.{slice_get_within, slice_get-get_or}
use Rattle.insn_set.specs.Registers.{in_operand}
use Rattle.insn_set.specs.Widths.{is_wide_slot}
use Rattle.insn_set.specs.Spelling.{is_encodable}
use Rattle.insn_set.specs.declared.ops.Slot.{Slot}
use Rattle.insn_set.specs.declared.ops.Slot.TheVariants.{Wide}
use Rattle.insn_set.specs.declared.form.Insn.{Insn}
use Rattle.program_model.specs.declared.body.Body.{Body}
use Rattle.program_model.specs.declared.body.Region.{Region}
use Rattle.body_graph.specs.Walks.{insn_at}
use Rattle.copy_prop.specs.Stale.{in_copy, overlaps, units, IsCopy, IsStale, IsStaleBy}
use Rattle.copy_prop.specs.Searches.{AreCopies, IsAmong, IsPlain}
use Rattle.copy_prop.specs.Rereading.{substituted, substitutes, fits, first_of, reread, IsReread}
use Rattle.copy_prop.specs.Propagated.{AreReread, HasPairs, HasNoneStale, IsCounted, IsPropagated, reread_row, row_at, one_if_some}
use Rattle.copy_prop.specs.declared.copied.Copied.{Copied}
use Rattle.copy_prop.proofs.Operands.{operand_in, keeps_operand, remade_same}
use Rattle.copy_prop.proofs.Edited.{set_here, set_there, same_items}

-- ---- one instruction

module _ (w : List (List Bool)) (b : Body) (n : ℕ) (f : Insn) where
  -- an instruction that reads an original isn't what it was
  apart : (c : Copied) (cs : List Copied) → IsAmong w b n f c → substitutes (c ∷ cs) f ≡ f → ⊥
  apart c cs by e =
      let kept : substituted (c ∷ cs) c.to ≡ c.to = keeps_operand (substituted (c ∷ cs)) f c.to e (operand_in w c.slot f c.to by.stands.read) in
      let head : substituted (c ∷ cs) c.to ≡ c.from = rw (eq-eqb c.to c.to refl) refl in
      let same : c.to ≡ c.from = sym kept ∙ head in
      true≢false (sym (overlap (is_wide_slot c.slot) same) ∙ by.stands.apart)
    where
      first_in : (v : Bool) (x y : ℕ) → x ≡ y → in_operand v x y ≡ true
      first_in false x y e = eq-eqb y x (sym e)
      first_in true x y e = or_left (nat_eq y x) (nat_eq y (x + 1)) (eq-eqb y x (sym e))

      overlap : (v : Bool) → c.to ≡ c.from → (in_operand (is_wide_slot c.slot) c.to c.from || in_operand (is_wide_slot c.slot) c.from c.to) ≡ true
      overlap v e = or_left (in_operand (is_wide_slot c.slot) c.to c.from) (in_operand (is_wide_slot c.slot) c.from c.to) (first_in (is_wide_slot c.slot) c.to c.from e)

  fits_alone : (c : Copied) → IsAmong w b n f c → fits f (substitutes (c ∷ []) f) ≡ true
  fits_alone c by = and_from (is_encodable (substitutes (c ∷ []) f)) (nat_le (units (substitutes (c ∷ []) f)) (units f)) by.stands.encodable (le-leb (units (substitutes (c ∷ []) f)) (units f) by.stands.short)

  row_reread : (cs : List Copied) → All (IsAmong w b n f) cs → IsReread w b n f (reread_row cs f)
  row_reread [] all = record { copies = []; stale = all; form = sym (remade_same f); fits = inl refl }
  row_reread (c ∷ cs) all = by (fits f (substitutes (c ∷ cs) f)) refl
    where
      head : IsAmong w b n f c
      head = All-head (IsAmong w b n f) c cs all

      by : (v : Bool) → fits f (substitutes (c ∷ cs) f) ≡ v → IsReread w b n f (reread (c ∷ cs) f)
      by true e = record { copies = c ∷ cs; stale = all; form = choice e; fits = inr (ap (fits f) (choice e) ∙ e) }
        where
          choice : fits f (substitutes (c ∷ cs) f) ≡ true → reread (c ∷ cs) f ≡ substitutes (c ∷ cs) f
          choice e = ap (λ v. if v then substitutes (c ∷ cs) f else substitutes (c ∷ []) f) e
      by false e = record { copies = c ∷ []; stale = All-cons (IsAmong w b n f) c [] head (All-nil (IsAmong w b n f)); form = choice e; fits = inr (ap (fits f) (choice e) ∙ fits_alone c head) }
        where
          choice : fits f (substitutes (c ∷ cs) f) ≡ false → reread (c ∷ cs) f ≡ substitutes (c ∷ []) f
          choice e = ap (λ v. if v then substitutes (c ∷ cs) f else substitutes (c ∷ []) f) e

  row_changes : (cs : List Copied) → All (IsAmong w b n f) cs → (cs ≡ [] → ⊥) → reread_row cs f ≡ f → ⊥
  row_changes [] all some e = some refl
  row_changes (c ∷ cs) all some e = by (fits f (substitutes (c ∷ cs) f)) refl
    where
      head : IsAmong w b n f c
      head = All-head (IsAmong w b n f) c cs all

      by : (v : Bool) → fits f (substitutes (c ∷ cs) f) ≡ v → ⊥
      by true i = apart c cs head (sym (ap (λ v. if v then substitutes (c ∷ cs) f else substitutes (c ∷ []) f) i) ∙ e)
      by false i = apart c [] head (sym (ap (λ v. if v then substitutes (c ∷ cs) f else substitutes (c ∷ []) f) i) ∙ e)

-- ---- all instructions

pub none_reread : (table : List (List Copied)) (xs : List Insn) → AreReread table 0 0 xs xs
none_reread table xs = record { long = refl; done = λ n f lt h. absurd (omega arith); rest = λ n le. refl; none = λ e n lt. absurd (omega arith); some = λ lt. absurd (omega arith); few = omega arith }

-- one instruction more
pub reread_more : (table : List (List Copied)) (k count more : ℕ) (old new : List Insn) (d f g : Insn) (row : List Copied) → k < length new → f ≡ get_or new k d → row ≡ row_at table k → g ≡ reread_row row f → more ≡ one_if_some row → AreReread table k count old new → AreReread table (k + 1) (count + more) old (set new k g)
reread_more table k count more old new d f g row lt is at e one was = record {
  long = length-set new k g ∙ was.long;
  done = done;
  rest = λ n le. let ne : n ≡ k → ⊥ = λ i. omega arith in set_there new k n g ne ∙ was.rest n (omega arith);
  none = none;
  some = λ z. some (cases_lt 0 count) z;
  few = let x : count ≤ k = was.few in let y : one_if_some row ≤ 1 = at_most row in omega (arith, one);
}
  where
    at_most : (cs : List Copied) → one_if_some cs ≤ 1
    at_most [] = omega arith
    at_most (c ∷ cs) = omega arith

    empty : (cs : List Copied) → one_if_some cs ≡ 0 → cs ≡ []
    empty [] h = refl
    empty (c ∷ cs) h = absurd (omega arith)

    filled : (cs : List Copied) → 0 < one_if_some cs → cs ≡ [] → ⊥
    filled [] h i = omega arith
    filled (c ∷ cs) h i = cc

    before : slice_get old k ≡ Some f
    before = sym (was.rest k (omega arith)) ∙ slice_get-get_or new k d lt ∙ ap Some (sym is)

    none : count + more ≡ 0 → (n : ℕ) → n < k + 1 → row_at table n ≡ []
    none z n le = by (cases_eq n k)
      where
        by : (n ≡ k) ⊎ (n ≡ k → ⊥) → row_at table n ≡ []
        by (inl i) = ap (row_at table) i ∙ sym at ∙ empty row (omega (arith, one))
        by (inr ne) = was.none (omega arith) n (omega arith)

    some : (0 < count) ⊎ (count ≤ 0) → 0 < count + more → (n : ℕ) × (n < k + 1) × (row_at table n ≡ [] → ⊥)
    some (inl pos) z = let s : (n : ℕ) × (n < k) × (row_at table n ≡ [] → ⊥) = was.some pos in (s.0, omega (arith, s.1), s.2)
    some (inr none') z = (k, omega arith, λ i. filled row (omega (arith, one)) (at ∙ i))

    done : (n : ℕ) (x : Insn) → n < k + 1 → slice_get old n ≡ Some x → slice_get (set new k g) n ≡ Some (reread_row (row_at table n) x)
    done n x le h = by (cases_eq n k)
      where
        by : (n ≡ k) ⊎ (n ≡ k → ⊥) → slice_get (set new k g) n ≡ Some (reread_row (row_at table n) x)
        by (inl i) =
            let o : Some x ≡ Some f = sym h ∙ ap (slice_get old) i ∙ before in
            let same : f ≡ x = cc in
            ap (slice_get (set new k g)) i ∙ set_here new k g lt ∙ ap Some (e ∙ ap (λ cs. reread_row cs f) (at ∙ ap (row_at table) (sym i)) ∙ ap (reread_row (row_at table n)) same)
        by (inr ne) = set_there new k n g ne ∙ was.done n x (omega arith) h

-- ---- the body

none_within : (xs : List Insn) (n : ℕ) → n < length xs → slice_get xs n ≡ None → ⊥
none_within [] n lt h = omega arith
none_within (x ∷ xs) zero lt h = cc
none_within (x ∷ xs) (suc n) lt h = none_within xs n (omega arith) h

pub insn_within : (xs : List Insn) (n : ℕ) → n < length xs → (f : Insn) × (slice_get xs n ≡ Some f)
insn_within [] n lt = absurd (omega arith)
insn_within (x ∷ xs) zero lt = (x, refl)
insn_within (x ∷ xs) (suc n) lt = insn_within xs n (omega arith)

body_eq : (d b : Body) → d.registers ≡ b.registers → d.ins ≡ b.ins → d.insns ≡ b.insns → d.regions ≡ b.regions → d ≡ b
body_eq d b e1 e2 e3 e4 =
    ap (λ (x : ℕ). record d { registers = x }) e1 ∙ ap (λ (x : ℕ). record d { registers = b.registers; ins = x }) e2
    ∙ ap (λ (xs : List Insn). record d { registers = b.registers; ins = b.ins; insns = xs }) e3
    ∙ ap (λ (rs : List Region). record d { registers = b.registers; ins = b.ins; insns = b.insns; regions = rs }) e4

module _ (w : List (List Bool)) (b d : Body) (table : List (List Copied)) (count k : ℕ) (long : k ≡ length b.insns) (are : AreCopies w b (length b.insns) table) (rereads : AreReread table k count b.insns d.insns)
    (registers : d.registers ≡ b.registers) (ins : d.ins ≡ b.ins) (regions : d.regions ≡ b.regions) where
  new_at : (n : ℕ) (f : Insn) → insn_at b n ≡ Some f → insn_at d n ≡ Some (reread_row (row_at table n) f)
  new_at n f h = rereads.done n f (let lt : n < length b.insns = slice_get_within b.insns n f h in omega arith) h

  same_insns : count ≡ 0 → d.insns ≡ b.insns
  same_insns z = same_items b.insns d.insns (λ n. at n (slice_get b.insns n) refl)
    where
      at : (n : ℕ) (o : Option Insn) → slice_get b.insns n ≡ o → slice_get d.insns n ≡ slice_get b.insns n
      at n None h = rereads.rest n (past n h)
        where
          past : (n : ℕ) → slice_get b.insns n ≡ None → k ≤ n
          past n h = elim (cases_lt n (length b.insns)) [ inl lt ↦ absurd (none_within b.insns n lt h) | inr le ↦ omega (arith, le) ]
      at n (Some f) h = new_at n f h ∙ ap (λ cs. Some (reread_row cs f)) (rereads.none z n (let lt : n < length b.insns = slice_get_within b.insns n f h in omega arith)) ∙ sym h

  same_body : count ≡ 0 → d ≡ b
  same_body z = body_eq d b registers ins (same_insns z) regions

  pub body_counted : IsCounted count b d
  body_counted = record { same = same_body; differs = differs }
    where
      differs : 0 < count → d ≡ b → ⊥
      differs pos e =
          let s : (n : ℕ) × (n < k) × (row_at table n ≡ [] → ⊥) = rereads.some pos in
          let f : (f : Insn) × (insn_at b s.0 ≡ Some f) = insn_within b.insns s.0 (omega (arith, s.1)) in
          let o : Some (reread_row (row_at table s.0) f.0) ≡ Some f.0 = sym (new_at s.0 f.0 f.1) ∙ ap (λ x. insn_at x s.0) e ∙ f.1 in
          let i : reread_row (row_at table s.0) f.0 ≡ f.0 = cc in
          row_changes w b s.0 f.0 (row_at table s.0) (are.sound s.0 f.0 f.1) s.2 i

  settled : d ≡ b → HasNoneStale w b
  settled e pairs n stale = body_counted.differs (positive (cases_lt 0 count)) e
    where
      plain : IsPlain b stale.at stale.slot stale.to stale.from
      plain = record { copy = stale.by.copy; apart = stale.by.stands.apart; room = room stale.slot stale.by.copy }
        where
          room : (slot : Slot) → IsCopy b stale.at slot stale.to stale.from → is_wide_slot slot ≡ true → stale.from + 1 < 2 ^ 16
          room Wide i h = pairs stale.at stale.to stale.from i
          room slot i h = absurd (cc)

      some_row : row_at table n ≡ [] → ⊥
      some_row z = are.all stale.at stale.slot stale.to stale.from n stale.form (slice_get_within b.insns stale.at _ stale.by.copy) plain stale.has_form stale.by z

      positive : (0 < count) ⊎ (count ≤ 0) → 0 < count
      positive (inl lt) = lt
      positive (inr le) = let z : count ≡ 0 = omega arith in absurd (some_row (rereads.none z n (let lt : n < length b.insns = slice_get_within b.insns n stale.form stale.has_form in omega arith)))

  pub body_propagated : IsPropagated w b d
  body_propagated = record {
    registers = registers;
    ins = ins;
    regions = regions;
    long = rereads.long;
    insns = λ n f h. (reread_row (row_at table n) f, new_at n f h, row_reread w b n f (row_at table n) (are.sound n f h));
    settled = settled;
  }
