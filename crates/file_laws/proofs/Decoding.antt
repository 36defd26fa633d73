-- What is read of the units of a method are the instructions that stand there.
use Rattle.std.proofs.Common.{◌≡◌, ◌≤◌, ◌⊎◌, inl, inr, ℕ, suc, ◌-◌, Bool, true, false, true≢false, cond, ltb, eqb, List, [], ◌∷◌, length, Result, Ok, Err, refl, sym, ap, subst, ◌∙◌}
use Rattle.std.specs.Prelude.{◌||◌}
use Rattle.std.specs.List.{AllByRecursion, list_all}
use Rattle.std.proofs.lemmas.Bool.{eqb-true}
use Rattle.class_defs.proofs.WellFormed.{and_left, and_right}
use Rattle.insn_set.specs.declared.form.Insn.{Insn}
use Rattle.code_read.specs.declared.fields.Fields.{Fields}
use Rattle.code_read.specs.declared.sizes.Sizes.{Sizes}
use Rattle.code_read.specs.Branches as c
use Rattle.code_read.specs.Checks.{targets_inside}
use Rattle.code_read.specs.Payloads.{has_payload, is_right, size_of, table_form}
use Rattle.code_read.specs.Positions.{target_from, nowhere}
use Rattle.code_read.specs.Decoded.{opcode_at, fields_at, payload_of, entries_of, entries_at, check_payloads, insn_at, checked_at, insns_from}
use Rattle.dex_defs.specs.Sweep.{Piece, Places, starts_of}
use Rattle.dex_defs.specs.Instructions as d
use Rattle.file_laws.specs.Founds.{Founds}
use Rattle.file_laws.proofs.Founding.{weaker, done, failed, when, either, next}
use Rattle.file_laws.proofs.Sweeping.{Instructed}
use Rattle.file_laws.proofs.Insns.{IsKind, ACall, ABranch, ATable, APlain, founds_kind, is_branch}
use Rattle.file_laws.proofs.Payloads.{is_packed, is_sparse}
use Rattle.file_laws.proofs.Fills.{is_fill}

-- ---- payloads are right

abbrev IsRight : Places → ℕ → ℕ → Fields → Type 0
IsRight places start op f = has_payload op ≡ true → is_right op (payload_of places start f) ≡ true

founds_entries : (places : Places) (start op : ℕ) (f : Fields) → Founds (λ n. IsRight places start op f) (entries_of places start op f)
founds_entries places start op f = either
    (λ is. weaker (cond (is_right op (payload_of places start f)) (Ok (size_of op (payload_of places start f))) (Err _)) (when _ (done (size_of op (payload_of places start f)))) (λ y p. λ has. p.0))
    (λ none. weaker (Ok 0) (done 0) (λ y p. λ has. absurd (true≢false (sym has ∙ none))))

abbrev RightAt : Places → Piece → Type 0
RightAt places p = IsRight places p.start (opcode_at places.units p.start) (fields_at places.units p.start)

founds_entries_at : (places : Places) (p : Piece) → Founds (λ n. RightAt places p) (entries_at places p.start)
unfolding entries_at
founds_entries_at places p = founds_entries places p.start (opcode_at places.units p.start) (fields_at places.units p.start)

-- a reading where a test doesn't hold
unless : {Y F : Type 0} {Is : Y → Type 0} {read : Result Y F} (b : Bool) (e : F) → Founds Is read → Founds Is (cond b (Err e) read)
unless true e d = failed e
unless false e d = d

pub founds_right : (places : Places) (left : ℕ) (ps : List Piece) → Founds (λ u. AllByRecursion (RightAt places) ps) (check_payloads places left (starts_of ps))
founds_right places left [] = weaker (Ok tt) (done tt) (λ y p. tt)
founds_right places left (p ∷ ps) = weaker (check_payloads places left (starts_of (p ∷ ps)))
    (next (founds_entries_at places p) (λ n right. unless (ltb left n) _ (founds_right places (left - n) ps)))
    (λ y q. (q.1, q.2))

-- ---- instructions

abbrev ReadAt : Places → Piece → Insn → Type 0
ReadAt places p insn = IsKind places p.start (opcode_at places.units p.start) (fields_at places.units p.start) insn

founds_at : (places : Places) (p : Piece) → Founds (ReadAt places p) (insn_at places p.start)
unfolding insn_at
founds_at places p = founds_kind places p.start (opcode_at places.units p.start) (fields_at places.units p.start)

founds_checked : (places : Places) (sizes : Sizes) (p : Piece) → Founds (ReadAt places p) (checked_at places sizes p.start)
unfolding checked_at
founds_checked places sizes p = weaker (checked_at places sizes p.start) (next (founds_at places p) (λ insn _. when _ (done insn))) (λ y q. subst (ReadAt places p) (sym q.2.1) q.1)

abbrev AllRead : Places → List Piece → List Insn → Type 0
AllRead places [] [] = Unit {0}
AllRead places [] (insn ∷ insns) = ⊥
AllRead places (p ∷ ps) [] = ⊥
AllRead places (p ∷ ps) (insn ∷ insns) = ReadAt places p insn × AllRead places ps insns

pub founds_read : (places : Places) (sizes : Sizes) (ps : List Piece) → Founds (AllRead places ps) (insns_from places sizes (starts_of ps))
founds_read places sizes [] = weaker (Ok []) (done []) (λ y p. subst (AllRead places []) (sym p) tt)
founds_read places sizes (p ∷ ps) = weaker (insns_from places sizes (starts_of (p ∷ ps)))
    (next (founds_checked places sizes p) (λ insn _. next (founds_read places sizes ps) (λ insns _. done (insn ∷ insns))))
    (λ y q. subst (AllRead places (p ∷ ps)) (sym q.2.2) (q.1, q.2.1))

-- ---- they stand there

either_true : (a b : Bool) {A B : Type 0} → (a || b) ≡ true → (a ≡ true → A) → (b ≡ true → B) → A ⊎ B
either_true true b h f g = inl (f refl)
either_true false b h f g = inr (g h)

abbrev IsTable : ℕ → Type 0
IsTable op = (op ≡ 0x26) ⊎ ((op ≡ 0x2b) ⊎ (op ≡ 0x2c))

is_table : (op : ℕ) → has_payload op ≡ true → IsTable op
is_table op h = either_true (eqb op 0x26) (eqb op 0x2b || eqb op 0x2c) h (eqb-true op 0x26) (λ g. either_true (eqb op 0x2b) (eqb op 0x2c) g (eqb-true op 0x2b) (eqb-true op 0x2c))

by_table : (places : Places) (p : Piece) (f : Fields) (insn : Insn) (n : ℕ) → n ≤ nowhere → d.HasFields p f → is_right (d.opcode p) (payload_of places p.start f) ≡ true
    → insn ≡ table_form (d.opcode p) f.a (target_from places.starts p.start) (payload_of places p.start f) → targets_inside n insn ≡ true → IsTable (d.opcode p) → d.IsInsn places p insn
by_table places p f insn n few has right is inside t =
    let payload = payload_of places p.start f in
    let table : ℕ → Insn = λ op. table_form op f.a (target_from places.starts p.start) payload in
    elim t [
      | inl e ↦ d.Fill f has e (is_fill places p f insn (subst (λ op. is_right op payload ≡ true) e right) (subst (λ op. insn ≡ table op) e is))
      | inr t ↦ elim t [
        | inl e ↦ d.Packed f has e (is_packed places p f insn n few (subst (λ op. is_right op payload ≡ true) e right) (subst (λ op. insn ≡ table op) e is) inside)
        | inr e ↦ d.Sparse f has e (is_sparse places p f insn n few (subst (λ op. is_right op payload ≡ true) e right) (subst (λ op. insn ≡ table op) e is) inside)
      ]
    ]

none_of : (a b c : Bool) → a ≡ false → b ≡ false → c ≡ false → (a || (b || c)) ≡ false
none_of false false false ea eb ec = refl
none_of true b c ea eb ec = absurd cc
none_of false true c ea eb ec = absurd cc
none_of false false true ea eb ec = absurd cc

by_kind : (places : Places) (p : Piece) (f : Fields) (insn : Insn) (n : ℕ) → n ≤ nowhere → d.HasFields p f → IsRight places p.start (d.opcode p) f → targets_inside n insn ≡ true → IsKind places p.start (d.opcode p) f insn → d.IsInsn places p insn
by_kind places p f insn n few has right inside (ACall is most e) = d.Call f has is most e
by_kind places p f insn n few has right inside (ABranch is e) = d.Branch f has is (is_branch places p f insn n few e inside)
by_kind places p f insn n few has right inside (ATable is e) = by_table places p f insn n few has (right is) e inside (is_table (d.opcode p) is)
by_kind places p f insn n few has right inside (APlain a b t e) = d.Plain f has (none_of (c.is_branch (d.opcode p)) (c.is_call (d.opcode p)) (d.has_payload (d.opcode p)) b a t) e

is_insn : (places : Places) (p : Piece) (insn : Insn) (n : ℕ) → n ≤ nowhere → Instructed places.units p → RightAt places p → ReadAt places p insn → targets_inside n insn ≡ true → d.IsInsn places p insn
is_insn places p insn n few i right read inside =
    let f = fields_at places.units p.start in
    by_kind places p f insn n few i.fields_are (subst (λ op. IsRight places p.start op f) i.opcode_is right) inside (subst (λ op. IsKind places p.start op f insn) i.opcode_is read)

pub are_insns : (places : Places) (n : ℕ) → n ≤ nowhere → (ps : List Piece) (insns : List Insn) → AllByRecursion (Instructed places.units) ps → AllByRecursion (RightAt places) ps → AllRead places ps insns
    → list_all (targets_inside n) insns ≡ true → d.AreInsns places ps insns
are_insns places n few [] [] i right read inside = tt
are_insns places n few [] (insn ∷ insns) i right read inside = read
are_insns places n few (p ∷ ps) [] i right read inside = read
are_insns places n few (p ∷ ps) (insn ∷ insns) i right read inside = (
  is_insn places p insn n few i.0 right.0 read.0 (and_left (targets_inside n insn) (list_all (targets_inside n) insns) inside),
  are_insns places n few ps insns i.1 right.1 read.1 (and_right (targets_inside n insn) (list_all (targets_inside n) insns) inside),
)

pub as_many : (places : Places) (ps : List Piece) (insns : List Insn) → AllRead places ps insns → length insns ≡ length ps
as_many places [] [] h = refl
as_many places [] (insn ∷ insns) h = absurd h
as_many places (p ∷ ps) [] h = absurd h
as_many places (p ∷ ps) (insn ∷ insns) h = ap suc (as_many places ps insns h.1)
