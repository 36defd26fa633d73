-- Each instruction of a written body stands in its units.
use Rattle.std.proofs.Common.{◌≡◌, ◌<◌, ◌≤◌, ◌+◌, ◌*◌, ◌-◌, ◌%◌, ◌/◌, ◌^◌, ℕ, ℤ, pos, ◌+ℤ◌, ◌-ℤ◌, true, false, List, [], ◌∷◌, ◌++◌, length, drop, Some, refl, sym, ap, subst, ◌∙◌, arith, append_assoc, length-append}
use Rattle.std.specs.Prelude.{FitsSigned, slice_index, slice_get, nat_lt, nat_eq, ◌||◌, ◌&&◌, ◌==◌}
use Rattle.std.specs.Int.{w32}
use Rattle.std.specs.List.{AllByRecursion, flat_map, list_any, list_all}
use Rattle.std.proofs.lemmas.Int.{ints}
use Rattle.std.proofs.lemmas.Bool.{and_parts, eqb-true}
use Rattle.std.proofs.lemmas.List.{drop_at}
use Rattle.std.proofs.lemmas.List.Concat.{flat_map-append}
use Rattle.dex_base.specs.Decides.{Each}
use Rattle.insn_set.specs.Flow.{targets_of}
use Rattle.insn_set.specs.Spelling.{is_width, fits_width, keys_ascend, is_encodable}
use Rattle.insn_set.specs.declared.form.Insn.{Insn}
use Rattle.insn_set.specs.declared.form.Insn.TheVariants.{Nop, FillArray, Goto, PackedSwitch, SparseSwitch, If, IfZero}
use Rattle.program_model.specs.declared.pass.Renumber.{Renumber}
use Rattle.code_read.specs.declared.fields.Fields.{Fields}
use Rattle.code_read.specs.Opcodes.{format_at}
use Rattle.code_read.specs.Forms.{word, plain}
use Rattle.code_read.specs.Branches.{is_branch, is_call, offset_form, branch_form, most_words, call_form}
use Rattle.code_read.specs.Payloads.{has_payload}
use Rattle.relax.specs.Sizes.{start}
use Rattle.dex_defs.specs.Sweep.{Piece, Places, payloads}
use Rattle.dex_defs.specs.Instructions.{opcode, HasFields, GoesTo, IsPayloadOf, signed_at, unit_bytes, item_at, IsInsn, Plain, Branch, Call, Fill, Packed, Sparse}
use Rattle.dex_defs.specs.CodeTexts.{two_units, signed_units, target_units, units_from, payload_text}
use Rattle.dex_defs.specs.Written.{new_insn}
use Rattle.written_code.proofs.Forms.{Form, APlain, ABranch, ACall, AFill, APacked, ASparse, Spelt, InWidth, IsBranchTo}
use Rattle.written_code.proofs.Tables.{at_front, signed_there, targets_there, keys_long, keys_there, Fit, items_fit, item_bytes, bytes_low, bytes_again, odd_of, items_there}

-- ---- where an instruction goes

abbrev pub to_of : List ℕ → ℕ → ℕ → Insn → ℕ
to_of sizes unit from (Goto target) = start sizes target
to_of sizes unit from (If test a b target) = start sizes target
to_of sizes unit from (IfZero test a target) = start sizes target
to_of sizes unit from (FillArray on width items) = unit + unit % 2
to_of sizes unit from (PackedSwitch on first targets) = unit + unit % 2
to_of sizes unit from (SparseSwitch on keys targets) = unit + unit % 2
to_of sizes unit from insn = from

pub to_same : (r : Renumber) (sizes : List ℕ) (unit from : ℕ) (x : Insn) → to_of sizes unit from (new_insn r x) ≡ to_of sizes unit from x
to_same r sizes unit from Nop = refl
to_same r sizes unit from x = refl

pub payload_same : (r : Renumber) (sizes : List ℕ) (from : ℕ) (x : Insn) → payload_text sizes from (new_insn r x) ≡ payload_text sizes from x
payload_same r sizes from Nop = refl
payload_same r sizes from x = refl

pub encodable_same : (r : Renumber) (x : Insn) → is_encodable (new_insn r x) ≡ is_encodable x
encodable_same r Nop = refl
encodable_same r x = refl

pub targets_same : (r : Renumber) (x : Insn) → targets_of (new_insn r x) ≡ targets_of x
targets_same r Nop = refl
targets_same r x = refl

pub width_same : (r : Renumber) (x : Insn) → InWidth x → InWidth (new_insn r x)
width_same r Nop h = h
width_same r x h = h

branch_to : (sizes : List ℕ) (unit from target : ℕ) (y : Insn) → IsBranchTo y target → to_of sizes unit from y ≡ start sizes target
branch_to sizes unit from target (Goto t) h = ap (λ (k : ℕ). start sizes k) h
branch_to sizes unit from target (If test a b t) h = ap (λ (k : ℕ). start sizes k) h
branch_to sizes unit from target (IfZero test a t) h = ap (λ (k : ℕ). start sizes k) h
branch_to sizes unit from target y h = absurd h

branch_in : (P : ℕ → Type 0) (target : ℕ) (y : Insn) → IsBranchTo y target → AllByRecursion P (targets_of y) → P target
branch_in P target (Goto t) h a = subst P h a.0
branch_in P target (If test a b t) h p = subst P h p.0
branch_in P target (IfZero test a t) h p = subst P h p.0
branch_in P target y h a = absurd h

-- ---- payloads in their places

-- a payload's text stands at this even unit, and is one of the payloads
pub record Put (places : Places) (unit : ℕ) (text : List ℕ) : Type 0 where
  pub front : List ℕ
  pub rest : List ℕ
  pub is : places.units ≡ front ++ (text ++ rest)
  pub long : length front ≡ unit
  pub even : unit % 2 ≡ 0
  pub begins : list_any (λ u. u == unit) places.payloads ≡ true

abbrev pub HasPut : Places → ℕ → List ℕ → Type 0
HasPut places unit [] = Unit {0}
HasPut places unit (u ∷ us) = Put places unit (u ∷ us)

-- a position begins at its unit
abbrev pub Begins : Places → List ℕ → ℕ → Type 0
Begins places sizes t = (start sizes t < 2 ^ 31) × (slice_get places.starts t ≡ Some (start sizes t))

back_there : (from to : ℕ) → pos to ≡ pos from +ℤ (pos to -ℤ pos from)
back_there from to = omega (arith, ints)

goes_there : (places : Places) (from to target : ℕ) (z : ℤ) → z ≡ (pos to -ℤ pos from) → slice_get places.starts target ≡ Some to → GoesTo places from z target
goes_there places from to target z e b = record { unit = to; is = back_there from to ∙ ap (λ (y : ℤ). pos from +ℤ y) (sym e); begins = b }

payload_of : (places : Places) (from unit code : ℕ) (f : Fields) (us : List ℕ) → word f.wide ≡ (pos unit -ℤ pos from) → Put places unit (256 * code ∷ us) → IsPayloadOf places from f code unit
payload_of places from unit code f us w p = record {
  is = back_there from unit ∙ ap (λ (y : ℤ). pos from +ℤ y) (sym w);
  even = p.even;
  begins = p.begins;
  kind = ap (λ (l : List ℕ). slice_index l unit) p.is ∙ at_front p.front (256 * code ∷ (us ++ p.rest)) unit 0 (omega (arith, p.long));
}

-- what stands at a place in a payload
in_payload : (places : Places) (unit : ℕ) (text : List ℕ) (p : Put places unit text) (j : ℕ) → slice_index places.units (unit + j) ≡ slice_index (text ++ p.rest) j
in_payload places unit text p j = ap (λ (l : List ℕ). slice_index l (unit + j)) p.is ∙ at_front p.front (text ++ p.rest) (unit + j) j (omega (arith, p.long))

record FitFill (width : ℕ) (items : List ℕ) : Type 0 where
  width_is : is_width width ≡ true
  fit : Fit width items

fit_fill : (on width : ℕ) (items : List ℕ) → is_encodable (FillArray on width items) ≡ true → AllByRecursion (λ n. n < 2 ^ 64) items → FitFill width items
fit_fill on width items e w =
    let a = and_parts (nat_lt on 256) (is_width width && (nat_lt (length items) 4294967296 && list_all (λ item. fits_width width item) items)) e in
    let b = and_parts (is_width width) (nat_lt (length items) 4294967296 && list_all (λ item. fits_width width item) items) a.1 in
    let c = and_parts (nat_lt (length items) 4294967296) (list_all (λ item. fits_width width item) items) b.1 in
    record { width_is = b.0; fit = items_fit width items b.0 c.1 w }

pub fill_fits : (on width : ℕ) (items : List ℕ) → is_encodable (FillArray on width items) ≡ true → AllByRecursion (λ n. n < 2 ^ 64) items → Fit width items
fill_fits on width items e w = (fit_fill on width items e w).fit

pub record FitSparse (keys : List ℤ) (targets : List ℕ) : Type 0 where
  pub same : length keys ≡ length targets
  pub ascend : keys_ascend keys ≡ true

pub fit_sparse : (on : ℕ) (keys : List ℤ) (targets : List ℕ) → is_encodable (SparseSwitch on keys targets) ≡ true → FitSparse keys targets
fit_sparse on keys targets e =
    let a = and_parts (nat_lt on 256) (nat_lt (length targets) 65536 && (nat_eq (length keys) (length targets) && keys_ascend keys)) e in
    let b = and_parts (nat_lt (length targets) 65536) (nat_eq (length keys) (length targets) && keys_ascend keys) a.1 in
    let c = and_parts (nat_eq (length keys) (length targets)) (keys_ascend keys) b.1 in
    record { same = eqb-true (length keys) (length targets) c.0; ascend = c.1 }

-- ---- one instruction

module _ (places : Places) (sizes : List ℕ) (from to : ℕ) (text : List ℕ) where
  abbrev p : Piece
  p = record { start = from; text = text }

  fill_is : (y : Insn) (f : Fields) (on width : ℕ) (items : List ℕ) → HasFields p f → opcode p ≡ 0x26 → y ≡ FillArray on width items → on ≡ f.a → word f.wide ≡ (pos to -ℤ pos from) → FitFill width items → Put places to (payload_text sizes from (FillArray on width items)) → IsInsn places p y
  fill_is y f on width items has op is a w fit put =
      let bytes : List ℕ = flat_map (item_bytes width) items in
      let us : List ℕ = units_from bytes in
      let widths : slice_index places.units (to + 1) ≡ width = in_payload places to (0x0300 ∷ width ∷ (two_units (length items) ++ us)) put 1 in
      let low : slice_index places.units (to + 2) ≡ length items % 65536 = in_payload places to (0x0300 ∷ width ∷ (two_units (length items) ++ us)) put 2 in
      let high : slice_index places.units (to + 2 + 1) ≡ length items / 65536 = ap (λ (k : ℕ). slice_index places.units k) (let e : to + 2 + 1 ≡ to + 3 = omega arith in e) ∙ in_payload places to (0x0300 ∷ width ∷ (two_units (length items) ++ us)) put 3 in
      let front : List ℕ = put.front ++ (0x0300 ∷ width ∷ (length items % 65536) ∷ (length items / 65536) ∷ []) in
      let whole : places.units ≡ front ++ (us ++ put.rest) = put.is ∙ sym (append_assoc put.front (0x0300 ∷ width ∷ (length items % 65536) ∷ (length items / 65536) ∷ []) (us ++ put.rest)) in
      let four : length front ≡ to + 4 = length-append put.front (0x0300 ∷ width ∷ (length items % 65536) ∷ (length items / 65536) ∷ []) ∙ omega (arith, put.long) in
      let behind : drop (to + 4) places.units ≡ us ++ put.rest = ap (λ (l : List ℕ). drop (to + 4) l) whole ∙ drop_at front (us ++ put.rest) (to + 4) four in
      let all : flat_map unit_bytes (drop (to + 4) places.units) ≡ bytes ++ (odd_of bytes ++ flat_map unit_bytes put.rest) =
      ap (λ (l : List ℕ). flat_map unit_bytes l) behind ∙ (flat_map-append unit_bytes us put.rest ∙ (ap (λ (l : List ℕ). l ++ flat_map unit_bytes put.rest) (bytes_again bytes (bytes_low width items fit.fit)) ∙ append_assoc bytes (odd_of bytes) (flat_map unit_bytes put.rest))) in
      let zeros : 0 ≡ width * 0 = omega arith in
      Fill f has op (record {
        unit = to;
        payload = payload_of places from to 3 f (width ∷ (two_units (length items) ++ us)) w put;
        items = items;
        width = subst (λ k. is_width k ≡ true) (sym widths) fit.width_is;
        size = omega (arith, low, high);
        are = subst (λ k. Each (λ (i item : ℕ). item ≡ item_at (flat_map unit_bytes (drop (to + 4) places.units)) k i) 0 items) (sym widths) (items_there (flat_map unit_bytes (drop (to + 4) places.units)) width 0 [] (odd_of bytes ++ flat_map unit_bytes put.rest) items all zeros fit.fit);
        is = is ∙ (ap (λ (k : ℕ). FillArray k width items) a ∙ ap (λ (k : ℕ). FillArray f.a k items) (sym widths));
      })

  packed_is : (y : Insn) (f : Fields) (on : ℕ) (first : ℤ) (targets : List ℕ) → HasFields p f → opcode p ≡ 0x2b → y ≡ PackedSwitch on first targets → on ≡ f.a → word f.wide ≡ (pos to -ℤ pos from) → FitsSigned w32 first → from < 2 ^ 31 → AllByRecursion (Begins places sizes) targets
      → Put places to (payload_text sizes from (PackedSwitch on first targets)) → IsInsn places p y
  packed_is y f on first targets has op is a w fits low begins put =
      let ts : List ℕ = flat_map (target_units sizes from) targets in
      let front : List ℕ = put.front ++ (0x0100 ∷ length targets ∷ []) in
      let two : length front ≡ to + 2 = length-append put.front (0x0100 ∷ length targets ∷ []) ∙ omega (arith, put.long) in
      let whole : places.units ≡ front ++ (signed_units first ++ (ts ++ put.rest)) = put.is ∙ sym (append_assoc put.front (0x0100 ∷ length targets ∷ []) (signed_units first ++ (ts ++ put.rest))) in
      let first_is : signed_at places.units (to + 2) ≡ first = ap (λ (l : List ℕ). signed_at l (to + 2)) whole ∙ signed_there front (ts ++ put.rest) first (to + 2) fits (sym two) in
      let next : places.units ≡ (front ++ signed_units first) ++ (ts ++ put.rest) = whole ∙ sym (append_assoc front (signed_units first) (ts ++ put.rest)) in
      let many : length (front ++ signed_units first) ≡ to + 4 + 2 * 0 = length-append front (signed_units first) ∙ omega (arith, two) in
      Packed f has op (record {
        unit = to;
        payload = payload_of places from to 1 f (length targets ∷ (signed_units first ++ ts)) w put;
        targets = targets;
        size = in_payload places to (0x0100 ∷ length targets ∷ (signed_units first ++ ts)) put 1;
        are = targets_there sizes places from (to + 4) low 0 (front ++ signed_units first) put.rest targets next many begins;
        is = is ∙ (ap (λ (k : ℕ). PackedSwitch k first targets) a ∙ ap (λ (z : ℤ). PackedSwitch f.a z targets) (sym first_is));
      })

  sparse_is : (y : Insn) (f : Fields) (on : ℕ) (keys : List ℤ) (targets : List ℕ) → HasFields p f → opcode p ≡ 0x2c → y ≡ SparseSwitch on keys targets → on ≡ f.a → word f.wide ≡ (pos to -ℤ pos from) → AllByRecursion (FitsSigned w32) keys → FitSparse keys targets → from < 2 ^ 31
      → AllByRecursion (Begins places sizes) targets → Put places to (payload_text sizes from (SparseSwitch on keys targets)) → IsInsn places p y
  sparse_is y f on keys targets has op is a w fits right low begins put =
      let ks : List ℕ = flat_map signed_units keys in
      let ts : List ℕ = flat_map (target_units sizes from) targets in
      let front : List ℕ = put.front ++ (0x0200 ∷ length targets ∷ []) in
      let two : length front ≡ to + 2 = length-append put.front (0x0200 ∷ length targets ∷ []) ∙ omega (arith, put.long) in
      let whole : places.units ≡ front ++ (ks ++ (ts ++ put.rest)) = put.is ∙ (sym (append_assoc put.front (0x0200 ∷ length targets ∷ []) ((ks ++ ts) ++ put.rest)) ∙ ap (λ (l : List ℕ). front ++ l) (append_assoc ks ts put.rest)) in
      let next : places.units ≡ (front ++ ks) ++ (ts ++ put.rest) = whole ∙ sym (append_assoc front ks (ts ++ put.rest)) in
      let many : length (front ++ ks) ≡ to + 2 + 2 * length targets + 2 * 0 = length-append front ks ∙ omega (arith, two, keys_long keys, right.same) in
      Sparse f has op (record {
        unit = to;
        payload = payload_of places from to 2 f (length targets ∷ (ks ++ ts)) w put;
        keys = keys;
        targets = targets;
        many = right.same;
        size = in_payload places to (0x0200 ∷ length targets ∷ (ks ++ ts)) put 1;
        are_keys = keys_there places.units (to + 2) 0 front (ts ++ put.rest) keys whole (omega (arith, two)) fits;
        ascend = right.ascend;
        are = targets_there sizes places from (to + 2 + 2 * length targets) low 0 (front ++ ks) put.rest targets next many begins;
        is = is ∙ ap (λ (k : ℕ). SparseSwitch k keys targets) a;
      })

  some_put : (unit : ℕ) (y : Insn) (u : ℕ) (us : List ℕ) → payload_text sizes from y ≡ u ∷ us → HasPut places unit (payload_text sizes from y) → Put places unit (u ∷ us)
  some_put unit y u us e h = subst (HasPut places unit) e h

  pub insn_is : (y : Insn) → Spelt y from to text → is_encodable y ≡ true → InWidth y → from < 2 ^ 31 → AllByRecursion (Begins places sizes) (targets_of y) → (unit : ℕ) → to ≡ to_of sizes unit from y → HasPut places (unit + unit % 2) (payload_text sizes from y) → IsInsn places p y
  insn_is y s enc width low begins unit goes put = by_form s.form
    where
      has : HasFields p s.f
      has = record { format = s.format; row = ap format_at s.read.opcode ∙ s.row; fields = s.read.fields_are }

      by_form : Form y s.op s.f (pos to -ℤ pos from) → IsInsn places p y
      by_form (APlain e is) = Plain s.f has (subst (λ op. (is_branch op || (is_call op || has_payload op)) ≡ false) (sym s.read.opcode) e) (subst (λ op. y ≡ plain op s.f) (sym s.read.opcode) is)
      by_form (ABranch target e b is off moves) =
          let there : to ≡ start sizes target = goes ∙ branch_to sizes unit from target y b in
          let got : Begins places sizes target = branch_in (Begins places sizes) target y b begins in
          Branch s.f has (subst (λ op. is_branch op ≡ true) (sym s.read.opcode) e) (record {
            target = target;
            goes = goes_there places from to target (offset_form (opcode p) s.f) (ap (λ (op : ℕ). offset_form op s.f) s.read.opcode ∙ off) (got.1 ∙ ap Some (sym there));
            moves = λ z. s.read.opcode ∙ moves (sym off ∙ (ap (λ (op : ℕ). offset_form op s.f) (sym s.read.opcode) ∙ z));
            is = subst (λ op. y ≡ branch_form op s.f target) (sym s.read.opcode) is;
          })
      by_form (ACall e few is) = Call s.f has (subst (λ op. is_call op ≡ true) (sym s.read.opcode) e) (subst (λ op. s.f.a ≤ most_words op s.f) (sym s.read.opcode) few) (subst (λ op. y ≡ call_form op s.f) (sym s.read.opcode) is)
      by_form (AFill on w items op is a far) =
          let there : to ≡ unit + unit % 2 = goes ∙ ap (λ (x : Insn). to_of sizes unit from x) is in
          fill_is y s.f on w items has (s.read.opcode ∙ op) is a far (fit_fill on w items (subst (λ x. is_encodable x ≡ true) is enc) (subst InWidth is width)) (subst (λ k. Put places k (payload_text sizes from (FillArray on w items))) (sym there) (subst (λ x. HasPut places (unit + unit % 2) (payload_text sizes from x)) is put))
      by_form (APacked on first targets op is a far) =
          let there : to ≡ unit + unit % 2 = goes ∙ ap (λ (x : Insn). to_of sizes unit from x) is in
          packed_is y s.f on first targets has (s.read.opcode ∙ op) is a far (subst InWidth is width) low (subst (λ x. AllByRecursion (Begins places sizes) (targets_of x)) is begins) (subst (λ k. Put places k (payload_text sizes from (PackedSwitch on first targets))) (sym there) (subst (λ x. HasPut places (unit + unit % 2) (payload_text sizes from x)) is put))
      by_form (ASparse on keys targets op is a far) =
          let there : to ≡ unit + unit % 2 = goes ∙ ap (λ (x : Insn). to_of sizes unit from x) is in
          sparse_is y s.f on keys targets has (s.read.opcode ∙ op) is a far (subst InWidth is width) (fit_sparse on keys targets (subst (λ x. is_encodable x ≡ true) is enc)) low (subst (λ x. AllByRecursion (Begins places sizes) (targets_of x)) is begins) (subst (λ k. Put places k (payload_text sizes from (SparseSwitch on keys targets))) (sym there) (subst (λ x. HasPut places (unit + unit % 2) (payload_text sizes from x)) is put))
