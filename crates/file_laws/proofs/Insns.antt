-- What is read of an instruction stands there: instructions with neither a branch nor a payload, branches and calls.
use Rattle.std.proofs.Common.{◌≡◌, ◌≤◌, ◌<◌, ℕ, ◌-◌, Bool, true, false, cond, ltb, eqb, List, [], ◌∷◌, Option, Some, None, Ok, refl, sym, ap, subst, ◌∙◌, arith}
use Rattle.std.specs.Prelude.{◌&&◌, not, ℤ, pos, negsuc, ◌+ℤ◌, slice_get, unwrap_or}
use Rattle.std.specs.Ordering.{int_eq}
use Rattle.std.specs.List.{list_all}
use Rattle.std.specs.Cmp.{signed_Decides}
use Rattle.std.proofs.lemmas.Bool.{ltb-true, leb-true, eqb-true}
use Rattle.std.proofs.lemmas.List.Quantifiers.{position-Some}
use Rattle.std.proofs.lemmas.Option.{slice_get-get_or}
use Rattle.class_defs.proofs.WellFormed.{and_left}
use Rattle.insn_set.specs.Flow.{targets_of}
use Rattle.insn_set.specs.declared.form.Insn.{Insn}
use Rattle.insn_set.specs.declared.form.Insn.TheVariants.{Goto, If, IfZero}
use Rattle.insn_set.specs.declared.ops.Test.{Test}
use Rattle.code_read.specs.declared.fields.Fields.{Fields}
use Rattle.code_read.specs.Opcodes.{from_to, test_at}
use Rattle.code_read.specs.Branches as c
use Rattle.code_read.specs.Checks.{targets_inside}
use Rattle.code_read.specs.Forms.{plain}
use Rattle.code_read.specs.Payloads.{has_payload, table_form}
use Rattle.code_read.specs.Positions.{no_less, position_of, position_at, target_from, nowhere}
use Rattle.code_read.specs.Decoded.{payload_of, branch_at, call_at, insn_of}
use Rattle.dex_defs.specs.Sweep.{Piece, Places}
use Rattle.dex_defs.specs.Instructions as d
use Rattle.file_laws.specs.Founds.{Founds}
use Rattle.file_laws.proofs.Founding.{weaker, done, when, either}

-- ---- which kind of instruction is read

pub data IsKind (places : Places) (start op : ℕ) (f : Fields) (insn : Insn) : Type 0 where
  ACall : c.is_call op ≡ true → f.a ≤ c.most_words op f → insn ≡ c.call_form op f → IsKind places start op f insn
  ABranch : c.is_branch op ≡ true → insn ≡ branch_at places.starts start op f → IsKind places start op f insn
  ATable : has_payload op ≡ true → insn ≡ table_form op f.a (target_from places.starts start) (payload_of places start f) → IsKind places start op f insn
  APlain : c.is_call op ≡ false → c.is_branch op ≡ false → has_payload op ≡ false → insn ≡ plain op f → IsKind places start op f insn

pub founds_kind : (places : Places) (start op : ℕ) (f : Fields) → Founds (IsKind places start op f) (insn_of places start op f)
founds_kind places start op f = either
    (λ is. weaker (call_at start op f) (when _ (done (c.call_form op f))) (λ y p. ACall is (leb-true _ _ p.0) p.1))
    (λ no_call. either
    (λ is. weaker (Ok (branch_at places.starts start op f)) (done (branch_at places.starts start op f)) (λ y p. ABranch is p))
    (λ no_branch. either
    (λ is. weaker (Ok (table_form op f.a (target_from places.starts start) (payload_of places start f))) (done _) (λ y p. ATable is p))
    (λ no_table. weaker (Ok (plain op f)) (done (plain op f)) (λ y p. APlain no_call no_branch no_table p))))

-- ---- targets

-- where an offset leads to a position
pub record Leads (starts : List ℕ) (from : ℕ) (offset : ℤ) (target : ℕ) : Type 0 where
  pub unit : ℕ
  pub is : pos unit ≡ pos from +ℤ offset
  pub begins : slice_get starts target ≡ Some unit

by_position : (starts : List ℕ) (unit n : ℕ) (read : Option ℕ) → read ≡ position_of starts unit → unwrap_or read nowhere < n → n ≤ nowhere → slice_get starts (unwrap_or read nowhere) ≡ Some unit
by_position starts unit n None e lt le = absurd (omega (arith, lt, le))
by_position starts unit n (Some k) e lt le =
    let q = position-Some (λ s. eqb s unit) starts k 0 (sym e) in
    slice_get-get_or starts k 0 q.0 ∙ ap (λ (u : ℕ). Some u) (eqb-true _ _ q.1)

by_unit : (starts : List ℕ) (n : ℕ) (z : ℤ) → unwrap_or (position_at starts (no_less z)) nowhere < n → n ≤ nowhere → (unit : ℕ) × (pos unit ≡ z) × (slice_get starts (unwrap_or (position_at starts (no_less z)) nowhere) ≡ Some unit)
by_unit starts n (pos unit) lt le = (unit, refl, by_position starts unit n (position_of starts unit) refl lt le)
by_unit starts n (negsuc k) lt le = absurd (omega (arith, lt, le))

pub leads : (starts : List ℕ) (from : ℕ) (offset : ℤ) (n : ℕ) → target_from starts from offset < n → n ≤ nowhere → Leads starts from offset (target_from starts from offset)
leads starts from offset n lt le = let u = by_unit starts n (pos from +ℤ offset) lt le in record { unit = u.0; is = u.1; begins = u.2 }

-- ---- branches

one_inside : (t n : ℕ) → list_all (λ t. ltb t n) (t ∷ []) ≡ true → t < n
one_inside t n h = ltb-true t n (and_left (ltb t n) true h)

by_forms : (a b : Bool) (t n q r : ℕ) (x y : Test) → list_all (λ t. ltb t n) (targets_of (cond a (Goto t) (cond b (If x q r t) (IfZero y q t)))) ≡ true → t < n
by_forms true b t n q r x y h = one_inside t n h
by_forms false true t n q r x y h = one_inside t n h
by_forms false false t n q r x y h = one_inside t n h

branch_inside : (op : ℕ) (f : Fields) (t n : ℕ) → targets_inside n (c.branch_form op f t) ≡ true → t < n
branch_inside op f t n h = by_forms (from_to op 0x28 0x2a) (from_to op 0x32 0x37) t n f.a f.b (test_at (op - 0x32)) (test_at (op - 0x38)) h

-- the target is no position, or the one to which the offset leads
by_stays : (stays : Bool) (t n : ℕ) → cond stays nowhere t < n → n ≤ nowhere → (stays ≡ false) × (cond stays nowhere t ≡ t) × (t < n)
by_stays true t n lt le = absurd (omega (arith, lt, le))
by_stays false t n lt le = (refl, refl, lt)

moves : (op : ℕ) (z : ℤ) → (int_eq z (pos 0) && not (eqb op 0x2a)) ≡ false → z ≡ pos 0 → op ≡ 0x2a
moves op z h e = eqb-true op 0x2a (by_zero (int_eq z (pos 0)) (eqb op 0x2a) ((signed_Decides z (pos 0)).1 e) h)
  where
    by_zero : (a b : Bool) → a ≡ true → (a && not b) ≡ false → b ≡ true
    by_zero true true e h = refl
    by_zero true false e h = absurd cc
    by_zero false b e h = absurd cc

pub is_branch : (places : Places) (p : Piece) (f : Fields) (insn : Insn) (n : ℕ) → n ≤ nowhere → insn ≡ branch_at places.starts p.start (d.opcode p) f → targets_inside n insn ≡ true → d.IsBranch places p f insn
is_branch places p f insn n few is inside =
    let op : ℕ = d.opcode p in
    let offset : ℤ = c.offset_form op f in
    let stays : Bool = int_eq offset (pos 0) && not (eqb op 0x2a) in
    let target : ℕ = target_from places.starts p.start offset in
    let h : targets_inside n (c.branch_form op f (cond stays nowhere target)) ≡ true = subst (λ i. targets_inside n i ≡ true) is inside in
    let b = by_stays stays target n (branch_inside op f (cond stays nowhere target) n h) few in
    let l = leads places.starts p.start offset n b.2 few in
    record {
      target = target;
      goes = record { unit = l.unit; is = l.is; begins = l.begins };
      moves = moves op offset b.0;
      is = is ∙ ap (λ (t : ℕ). c.branch_form op f t) b.1;
    }
