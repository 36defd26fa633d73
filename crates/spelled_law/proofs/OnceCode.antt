-- A code item spells one body alone, and its debug item one list of lines.
use Rattle.std.proofs.Common.{◌≡◌, ◌≤◌, ◌<◌, ◌^◌, ◌⊎◌, inl, inr, ℕ, zero, suc, ℤ, pos, negsuc, ◌+◌, ◌*◌, Bool, true, false, cond, leb, List, [], ◌∷◌, length, take, drop, Option, Some, None, refl, sym, ap, subst, ◌∙◌, arith}
use Rattle.std.specs.Prelude.{◌||◌, ◌==◌, slice_get, slice_index}
use Rattle.std.specs.List.{flat_map}
use Rattle.std.proofs.lemmas.Bool.{leb-true}
use Rattle.lemmas.proofs.Bools.{and_parts, or_cases, untrue}
use Rattle.lemmas.proofs.Options.{some_same}
use Rattle.dex_base.specs.Decides.{Each}
use Rattle.dex_base.specs.Word.{Is16}
use Rattle.insn_set.specs.declared.format.Format.{Format}
use Rattle.insn_set.specs.declared.form.Insn.{Insn}
use Rattle.insn_set.specs.declared.form.Insn.TheVariants as insn
use Rattle.line_tables.specs.Text.{AscendsFrom}
use Rattle.program_model.specs.declared.body.Body.{Body}
use Rattle.program_model.specs.declared.body.Handler.{Handler}
use Rattle.program_model.specs.declared.body.Region.{Region}
use Rattle.code_read.specs.declared.fields.Fields.{Fields}
use Rattle.code_read.specs.Opcodes.{from_to}
use Rattle.code_read.specs.Fields.{fields_in}
use Rattle.code_read.specs.Forms.{plain}
use Rattle.code_read.specs.Branches.{offset_form, branch_form, call_form, is_branch, is_call}
use Rattle.code_read.specs.Sweep.{Piece, instructions}
use Rattle.dex_defs.specs.Sweep.{Places, places_of, IsPiece, PiecesTo}
use Rattle.dex_defs.specs.Instructions.{opcode, HasFields, GoesTo, IsBranch, IsPayloadOf, double_at, signed_at, AreTargets, IsPacked, IsSparse, unit_bytes, item_at, IsFill, IsInsn, AreInsns}
use Rattle.dex_defs.specs.Instructions as of
use Rattle.dex_defs.specs.Handlers.{Try, IsTry, Catches, IsPair, IsRestAt, AreCatches, AreCatchesAt, covering, AreHandlers, IsRest, IsRegion, AreRegions, magnitude}
use Rattle.dex_defs.specs.CodeItems.{Frame, IsFrame, IsCode, tries_at, lists_at}
use Rattle.dex_defs.specs.ClassDefs.{HasCode}
use Rattle.dex_defs.specs.DebugItems.{lines_of}
use Rattle.spelled_law.proofs.Once.{two, three, four, once_16, once_32, once_sleb, uleb_parts, each_once, chain_once, cons_same}
use Rattle.spelled_law.proofs.Starts.{some_piece, starts_ascend}
use Rattle.spelled_law.proofs.Values.{with, paired}

-- ---- pieces

abbrev piece_made : ℕ → List ℕ → Piece
piece_made start text = record { start = start; text = text }

piece_once : (units : List ℕ) (at : ℕ) (p q : Piece) → IsPiece units at p → IsPiece units at q → p ≡ q
piece_once units at p q a b =
    let long : length p.text ≡ length q.text = some_same (length p.text) (length q.text) (sym a.size ∙ b.size) in
    two piece_made (a.start ∙ sym b.start) (a.text ∙ ap (λ (n : ℕ). take n (drop at units)) long ∙ sym b.text)

-- no piece is empty, so that none stands at the end
some_text : (units : List ℕ) (at : ℕ) (p : Piece) → IsPiece units at p → 0 < length p.text
some_text units at p h = some_piece (drop at units) (length p.text) h.size

pieces_once : (units : List ℕ) (at : ℕ) (ps qs : List Piece) → PiecesTo units at ps (length units) → PiecesTo units at qs (length units) → ps ≡ qs
pieces_once units at [] [] a b = refl
pieces_once units at [] (q ∷ qs) a b = let some = some_text units at q b.0 in let inside = b.0.inside in absurd (omega (arith, a, some, inside))
pieces_once units at (p ∷ ps) [] a b = let some = some_text units at p a.0 in let inside = a.0.inside in absurd (omega (arith, b, some, inside))
pieces_once units at (p ∷ ps) (q ∷ qs) a b =
    let e = piece_once units at p q a.0 b.0 in
    let rest = pieces_once units (at + length p.text) ps qs a.1 (subst (λ (x : Piece). PiecesTo units (at + length x.text) qs (length units)) (sym e) b.1) in
    cons_same e rest

-- ---- positions by their units

get_above : (low : ℕ) (us : List ℕ) (i u : ℕ) → AscendsFrom low us → slice_get us i ≡ Some u → low ≤ u
get_above low [] i u h e = absurd cc
get_above low (v ∷ us) zero u h e = let same = some_same v u e in omega (arith, same, h.0)
get_above low (v ∷ us) (suc i) u h e = let up = get_above (suc v) us i u h.2 e in omega (arith, up, h.0)

pub place_once : (low : ℕ) (us : List ℕ) (i j u : ℕ) → AscendsFrom low us → slice_get us i ≡ Some u → slice_get us j ≡ Some u → i ≡ j
place_once low [] i j u h a b = absurd cc
place_once low (v ∷ us) zero zero u h a b = refl
place_once low (v ∷ us) zero (suc j) u h a b = let same = some_same v u a in let up = get_above (suc v) us j u h.2 b in absurd (omega (arith, same, up))
place_once low (v ∷ us) (suc i) zero u h a b = let same = some_same v u b in let up = get_above (suc v) us i u h.2 a in absurd (omega (arith, same, up))
place_once low (v ∷ us) (suc i) (suc j) u h a b = ap suc (place_once (suc v) us i j u h.2 a b)

pos_same : (m n : ℕ) → pos m ≡ pos n → m ≡ n
pos_same m n e = cc

-- ---- opcodes

within : (op low high : ℕ) → from_to op low high ≡ true → (low ≤ op) × (op ≤ high)
within op low high h = let p = and_parts (leb low op) (leb op high) h in (leb-true low op p.0, leb-true op high p.1)

abbrev Between : ℕ → ℕ → ℕ → Type 0
Between op low high = (low ≤ op) × (op ≤ high)

branch_range : (op : ℕ) → is_branch op ≡ true → Between op 0x28 0x2a ⊎ Between op 0x32 0x3d
branch_range op h = elim (or_cases (from_to op 0x28 0x2a) (from_to op 0x32 0x3d) h) [
  | inl e ↦ inl (within op 0x28 0x2a e)
  | inr e ↦ inr (within op 0x32 0x3d e)
]

call_range : (op : ℕ) → is_call op ≡ true → Between op 0x24 0x25 ⊎ Between op 0x6e 0x78
call_range op h = elim (or_cases (from_to op 0x24 0x25) (from_to op 0x6e 0x72 || from_to op 0x74 0x78) h) [
  | inl e ↦ inl (within op 0x24 0x25 e)
  | inr e ↦ inr (elim (or_cases (from_to op 0x6e 0x72) (from_to op 0x74 0x78) e) [
    | inl g ↦ (let w = within op 0x6e 0x72 g in (w.0, omega (arith, w.1)))
    | inr g ↦ (let w = within op 0x74 0x78 g in (omega (arith, w.0), w.1))
  ])
]

no_call : (op : ℕ) → Between op 0x28 0x2a ⊎ Between op 0x32 0x3d → Between op 0x24 0x25 ⊎ Between op 0x6e 0x78 → ⊥
no_call op (inl x) (inl y) = omega (arith, x.0, y.1)
no_call op (inl x) (inr y) = omega (arith, x.1, y.0)
no_call op (inr x) (inl y) = omega (arith, x.0, y.1)
no_call op (inr x) (inr y) = omega (arith, x.1, y.0)

call_alone : (op : ℕ) → is_call op ≡ true → is_branch op ≡ false
call_alone op h = untrue (is_branch op) (λ b. no_call op (branch_range op b) (call_range op h))

-- which of its forms an instruction has by its opcode
abbrev sorted : Bool → Bool → Bool → Bool → Bool → ℕ
sorted a b c d e = cond a 1 (cond b 2 (cond c 3 (cond d 4 (cond e 5 0))))

abbrev sort : ℕ → ℕ
sort op = sorted (is_branch op) (is_call op) (op == 0x26) (op == 0x2b) (op == 0x2c)

sort_plain : (a b c d e : Bool) → (a || (b || (c || (d || e)))) ≡ false → sorted a b c d e ≡ 0
sort_plain true b c d e h = absurd cc
sort_plain false true c d e h = absurd cc
sort_plain false false true d e h = absurd cc
sort_plain false false false true e h = absurd cc
sort_plain false false false false true h = absurd cc
sort_plain false false false false false h = refl

-- ---- instructions

module _ (places : Places) (up : AscendsFrom 0 places.starts) where
  target_once : (from : ℕ) (offset : ℤ) (s t : ℕ) → GoesTo places from offset s → GoesTo places from offset t → s ≡ t
  target_once from offset s t a b =
      let unit : b.unit ≡ a.unit = pos_same b.unit a.unit (b.is ∙ sym a.is) in
      place_once 0 places.starts s t a.unit up a.begins (b.begins ∙ ap (λ (u : ℕ). Some u) unit)

  targets_once : (from unit unit' : ℕ) (ss ts : List ℕ) → unit ≡ unit' → length ss ≡ length ts → AreTargets places from unit ss → AreTargets places from unit' ts → ss ≡ ts
  targets_once from unit unit' ss ts same l a b =
      each_once (λ i target. GoesTo places from (signed_at places.units (unit + 2 * i)) target) (λ i s t. target_once from (signed_at places.units (unit + 2 * i)) s t) 0 ss ts l a
      (subst (λ (u : ℕ). AreTargets places from u ts) (sym same) b)

  branch_once : (p : Piece) (f : Fields) (x y : Insn) → IsBranch places p f x → IsBranch places p f y → x ≡ y
  branch_once p f x y a b = a.is ∙ ap (branch_form (opcode p) f) (target_once p.start (offset_form (opcode p) f) a.target b.target a.goes b.goes) ∙ sym b.is

  unit_once : (from : ℕ) (f : Fields) (code u v : ℕ) → IsPayloadOf places from f code u → IsPayloadOf places from f code v → u ≡ v
  unit_once from f code u v a b = pos_same u v (a.is ∙ sym b.is)

  packed_once : (p : Piece) (f : Fields) (x y : Insn) → IsPacked places p f x → IsPacked places p f y → x ≡ y
  packed_once p f x y a b =
      let u = unit_once p.start f 1 a.unit b.unit a.payload b.payload in
      let l : length a.targets ≡ length b.targets = sym a.size ∙ ap (λ (n : ℕ). slice_index places.units (n + 1)) u ∙ b.size in
      a.is ∙ two (insn.PackedSwitch f.a) (ap (λ (n : ℕ). signed_at places.units (n + 2)) u) (targets_once p.start (a.unit + 4) (b.unit + 4) a.targets b.targets (ap (λ (n : ℕ). n + 4) u) l a.are b.are) ∙ sym b.is

  keys_once : (unit unit' : ℕ) (ks ls : List ℤ) → unit ≡ unit' → length ks ≡ length ls → Each (λ i key. key ≡ signed_at places.units (unit + 2 + 2 * i)) 0 ks → Each (λ i key. key ≡ signed_at places.units (unit' + 2 + 2 * i)) 0 ls → ks ≡ ls
  keys_once unit unit' ks ls same l a b =
      each_once (λ i key. key ≡ signed_at places.units (unit + 2 + 2 * i)) (λ i x y h g. h ∙ sym g) 0 ks ls l a
      (subst (λ (u : ℕ). Each (λ i key. key ≡ signed_at places.units (u + 2 + 2 * i)) 0 ls) (sym same) b)

  sparse_once : (p : Piece) (f : Fields) (x y : Insn) → IsSparse places p f x → IsSparse places p f y → x ≡ y
  sparse_once p f x y a b =
      let u = unit_once p.start f 2 a.unit b.unit a.payload b.payload in
      let l : length a.targets ≡ length b.targets = sym a.size ∙ ap (λ (n : ℕ). slice_index places.units (n + 1)) u ∙ b.size in
      a.is ∙ two (insn.SparseSwitch f.a) (keys_once a.unit b.unit a.keys b.keys u (a.many ∙ l ∙ sym b.many) a.are_keys b.are_keys)
      (targets_once p.start (a.unit + 2 + 2 * length a.targets) (b.unit + 2 + 2 * length b.targets) a.targets b.targets (two (λ m n. m + 2 + 2 * n) u l) l a.are b.are) ∙ sym b.is

  fill_once : (p : Piece) (f : Fields) (x y : Insn) → IsFill places p f x → IsFill places p f y → x ≡ y
  fill_once p f x y a b =
      let u = unit_once p.start f 3 a.unit b.unit a.payload b.payload in
      let l : length a.items ≡ length b.items = sym a.size ∙ ap (λ (n : ℕ). double_at places.units (n + 2)) u ∙ b.size in
      let items : a.items ≡ b.items
      = each_once (λ i item. item ≡ item_at (flat_map unit_bytes (drop (a.unit + 4) places.units)) (slice_index places.units (a.unit + 1)) i) (λ i x y h g. h ∙ sym g) 0 a.items b.items l a.are
      (subst (λ (n : ℕ). Each (λ i item. item ≡ item_at (flat_map unit_bytes (drop (n + 4) places.units)) (slice_index places.units (n + 1)) i) 0 b.items) (sym u) b.are) in
      a.is ∙ two (insn.FillArray f.a) (ap (λ (n : ℕ). slice_index places.units (n + 1)) u) items ∙ sym b.is

  abbrev Form : ℕ → Piece → Fields → Insn → Type 0
  Form zero p f x = x ≡ plain (opcode p) f
  Form (suc zero) p f x = IsBranch places p f x
  Form (suc (suc zero)) p f x = x ≡ call_form (opcode p) f
  Form (suc (suc (suc zero))) p f x = IsFill places p f x
  Form (suc (suc (suc (suc zero)))) p f x = IsPacked places p f x
  Form (suc (suc (suc (suc (suc k))))) p f x = IsSparse places p f x

  record Formed (p : Piece) (x : Insn) : Type 0 where
    fields : Fields
    has : HasFields p fields
    form : Form (sort (opcode p)) p fields x

  by_branch : (op : ℕ) → is_branch op ≡ true → sort op ≡ 1
  by_branch op h = ap (λ (b : Bool). sorted b (is_call op) (op == 0x26) (op == 0x2b) (op == 0x2c)) h

  by_call : (op : ℕ) → is_call op ≡ true → sort op ≡ 2
  by_call op h = two (λ (a b : Bool). sorted a b (op == 0x26) (op == 0x2b) (op == 0x2c)) (call_alone op h) h

  formed : (p : Piece) (x : Insn) → IsInsn places p x → Formed p x
  formed p x (of.Plain f has none is) = record { fields = f; has = has; form = subst (λ (k : ℕ). Form k p f x) (sym (sort_plain (is_branch (opcode p)) (is_call (opcode p)) (opcode p == 0x26) (opcode p == 0x2b) (opcode p == 0x2c) none)) is }
  formed p x (of.Branch f has op is) = record { fields = f; has = has; form = subst (λ (k : ℕ). Form k p f x) (sym (by_branch (opcode p) op)) is }
  formed p x (of.Call f has op few is) = record { fields = f; has = has; form = subst (λ (k : ℕ). Form k p f x) (sym (by_call (opcode p) op)) is }
  formed p x (of.Fill f has op is) = record { fields = f; has = has; form = subst (λ (k : ℕ). Form k p f x) (sym (ap sort op)) is }
  formed p x (of.Packed f has op is) = record { fields = f; has = has; form = subst (λ (k : ℕ). Form k p f x) (sym (ap sort op)) is }
  formed p x (of.Sparse f has op is) = record { fields = f; has = has; form = subst (λ (k : ℕ). Form k p f x) (sym (ap sort op)) is }

  form_once : (k : ℕ) (p : Piece) (f : Fields) (x y : Insn) → Form k p f x → Form k p f y → x ≡ y
  form_once zero p f x y a b = a ∙ sym b
  form_once (suc zero) p f x y a b = branch_once p f x y a b
  form_once (suc (suc zero)) p f x y a b = a ∙ sym b
  form_once (suc (suc (suc zero))) p f x y a b = fill_once p f x y a b
  form_once (suc (suc (suc (suc zero)))) p f x y a b = packed_once p f x y a b
  form_once (suc (suc (suc (suc (suc k))))) p f x y a b = sparse_once p f x y a b

  fields_once : (p : Piece) (f g : Fields) → HasFields p f → HasFields p g → f ≡ g
  fields_once p f g a b =
      let format : a.format ≡ b.format = some_same a.format b.format (sym a.row ∙ b.row) in
      some_same f g (sym a.fields ∙ ap (λ (x : Format). fields_in x p.text) format ∙ b.fields)

  insn_once : (p : Piece) (x y : Insn) → IsInsn places p x → IsInsn places p y → x ≡ y
  insn_once p x y a b =
      let h = formed p x a in
      let g = formed p y b in
      form_once (sort (opcode p)) p h.fields x y h.form (subst (λ (f : Fields). Form (sort (opcode p)) p f y) (fields_once p g.fields h.fields g.has h.has) g.form)

  insns_once : (ps : List Piece) (xs ys : List Insn) → AreInsns places ps xs → AreInsns places ps ys → xs ≡ ys
  insns_once [] [] [] a b = refl
  insns_once [] [] (y ∷ ys) a b = absurd b
  insns_once [] (x ∷ xs) ys a b = absurd a
  insns_once (p ∷ ps) [] ys a b = absurd a
  insns_once (p ∷ ps) (x ∷ xs) [] a b = absurd b
  insns_once (p ∷ ps) (x ∷ xs) (y ∷ ys) a b = cons_same (insn_once p x y a.0 b.0) (insns_once ps xs ys a.1 b.1)

  -- ---- regions

  abbrev handler_made : ℕ → ℕ → Handler
  handler_made kind position = record { kind = kind; position = position }

  handlers_once : (types : ℕ) (pairs : List (ℕ × ℕ)) (xs ys : List Handler) → AreHandlers places types pairs xs → AreHandlers places types pairs ys → xs ≡ ys
  handlers_once types [] [] [] a b = refl
  handlers_once types [] [] (y ∷ ys) a b = absurd b
  handlers_once types [] (x ∷ xs) ys a b = absurd a
  handlers_once types (p ∷ ps) [] ys a b = absurd a
  handlers_once types (p ∷ ps) (x ∷ xs) [] a b = absurd b
  handlers_once types (p ∷ ps) (x ∷ xs) (y ∷ ys) a b =
      cons_same (two handler_made (a.0.kind ∙ sym b.0.kind) (place_once 0 places.starts x.position y.position p.1 up a.0.position b.0.position)) (handlers_once types ps xs ys a.1 b.1)

  rest_once : (unit r s : Option ℕ) → IsRest places unit r → IsRest places unit s → r ≡ s
  rest_once None None None a b = refl
  rest_once None None (Some s) a b = absurd b
  rest_once None (Some r) s a b = absurd a
  rest_once (Some u) None s a b = absurd a
  rest_once (Some u) (Some r) None a b = absurd b
  rest_once (Some u) (Some r) (Some s) a b = ap (λ (n : ℕ). Some n) (place_once 0 places.starts r s u up a b)

  abbrev region_made : ℕ → ℕ → List Handler → Option ℕ → Region
  region_made first end handlers rest = record { first = first; end = end; handlers = handlers; rest = rest }

  region_once : (bytes : List ℕ) (lists types : ℕ) (t : Try) (x y : Region) → ((c d : Catches) → AreCatchesAt bytes lists t.offset c → AreCatchesAt bytes lists t.offset d → c ≡ d)
      → IsRegion bytes places lists types t x → IsRegion bytes places lists types t y → x ≡ y
  region_once bytes lists types t x y catches a b =
      let c = catches a.catches b.catches a.are b.are in
      four region_made (place_once 0 places.starts x.first y.first t.start up a.begins b.begins) (a.ends ∙ sym b.ends)
      (handlers_once types a.catches.pairs x.handlers y.handlers a.handlers (subst (λ (k : Catches). AreHandlers places types k.pairs y.handlers) (sym c) b.handlers))
      (rest_once a.catches.rest x.rest y.rest a.rest (subst (λ (k : Catches). IsRest places k.rest y.rest) (sym c) b.rest))

-- ---- handler lists

pair_once : (bytes : List ℕ) (at : ℕ) (r s : (ℕ × ℕ) × ℕ) → IsPair bytes at r → IsPair bytes at s → r ≡ s
pair_once bytes at r s a b =
    let kind = uleb_parts bytes at at r.0.0 s.0.0 a.mid b.mid refl a.kind b.kind in
    let unit = uleb_parts bytes a.mid b.mid r.0.1 s.0.1 r.1 s.1 kind.1 a.unit b.unit in
    paired (paired kind.0 unit.0) unit.1

rest_at_once : (bytes : List ℕ) (z : ℤ) (at at' : ℕ) (r s : Option ℕ) (stop end : ℕ) → at ≡ at' → IsRestAt bytes z at r stop → IsRestAt bytes z at' s end → r ≡ s
rest_at_once bytes (pos zero) at at' r s stop end same a b = a.2 ∙ ap (λ (n : ℕ). Some n) (uleb_parts bytes at at' a.0 b.0 stop end same a.1 b.1).0 ∙ sym b.2
rest_at_once bytes (pos (suc n)) at at' r s stop end same a b = a.0 ∙ sym b.0
rest_at_once bytes (negsuc n) at at' r s stop end same a b = a.2 ∙ ap (λ (n : ℕ). Some n) (uleb_parts bytes at at' a.0 b.0 stop end same a.1 b.1).0 ∙ sym b.2

abbrev catches_made : List (ℕ × ℕ) → Option ℕ → Catches
catches_made pairs rest = record { pairs = pairs; rest = rest }

pub catches_once : (bytes : List ℕ) (at : ℕ) (c d : Catches) (stop end : ℕ) → AreCatches bytes at (c, stop) → AreCatches bytes at (d, end) → c ≡ d
catches_once bytes at c d stop end a b =
    let size : with a.size a.begin ≡ with b.size b.begin = once_sleb bytes at (a.size, a.begin) (b.size, b.begin) a.is_size b.is_size in
    let same : a.size ≡ b.size = ap (λ (r : ℤ × ℕ). r.0) size in
    let long : length c.pairs ≡ length d.pairs = a.many ∙ ap magnitude same ∙ sym b.many in
    let pairs = chain_once (IsPair bytes) (pair_once bytes) a.begin b.begin (ap (λ (r : ℤ × ℕ). r.1) size) c.pairs d.pairs a.mid b.mid long a.pairs b.pairs in
    two catches_made pairs.0 (rest_at_once bytes a.size a.mid b.mid c.rest d.rest stop end pairs.1 a.rest (subst (λ (z : ℤ). IsRestAt bytes z b.mid d.rest end) (sym same) b.rest))

regions_once : (bytes : List ℕ) (places : Places) (up : AscendsFrom 0 places.starts) (lists types : ℕ) (ts : List Try) (xs ys : List Region) → AreRegions bytes places lists types ts xs → AreRegions bytes places lists types ts ys → xs ≡ ys
regions_once bytes places up lists types [] [] [] a b = refl
regions_once bytes places up lists types [] [] (y ∷ ys) a b = absurd b
regions_once bytes places up lists types [] (x ∷ xs) ys a b = absurd a
regions_once bytes places up lists types (t ∷ ts) [] ys a b = absurd a
regions_once bytes places up lists types (t ∷ ts) (x ∷ xs) [] a b = absurd b
regions_once bytes places up lists types (t ∷ ts) (x ∷ xs) (y ∷ ys) a b =
    cons_same (region_once places up bytes lists types t x y (λ c d h g. catches_once bytes (lists + t.offset) c d h.stop g.stop h.are g.are) a.0 b.0) (regions_once bytes places up lists types ts xs ys a.1 b.1)

-- ---- the item

abbrev try_made : ℕ → ℕ → ℕ → Try
try_made start count offset = record { start = start; count = count; offset = offset }

pub try_once : (bytes : List ℕ) (at : ℕ) (t u : Try) → IsTry bytes at t → IsTry bytes at u → t ≡ u
try_once bytes at t u a b =
    three try_made (once_32 bytes at t.start u.start a.start b.start) (once_16 bytes (at + 4) t.count u.count a.count b.count) (once_16 bytes (at + 6) t.offset u.offset a.offset b.offset)

abbrev frame_made : ℕ → ℕ → ℕ → ℕ → ℕ → ℕ → Frame
frame_made registers ins outs tries debug size = record { registers = registers; ins = ins; outs = outs; tries = tries; debug = debug; size = size }

frame_once : (bytes : List ℕ) (at : ℕ) (f g : Frame) → IsFrame bytes at f → IsFrame bytes at g → f ≡ g
frame_once bytes at f g a b =
    four (λ (registers ins outs tries : ℕ). frame_made registers ins outs tries f.debug f.size) (once_16 bytes at f.registers g.registers a.registers b.registers) (once_16 bytes (at + 2) f.ins g.ins a.ins b.ins)
    (once_16 bytes (at + 4) f.outs g.outs a.outs b.outs) (once_16 bytes (at + 6) f.tries g.tries a.tries b.tries)
    ∙ two (frame_made g.registers g.ins g.outs g.tries) (once_32 bytes (at + 8) f.debug g.debug a.debug b.debug) (once_32 bytes (at + 12) f.size g.size a.size b.size)

last_unit : (bytes : List ℕ) (at from : ℕ) (units : List ℕ) → Each (λ i unit. Is16 bytes (at + 2 * i) unit) from units → (length units ≡ 0) ⊎ (at + 2 * (from + length units) ≤ length bytes)
last_unit bytes at from [] h = inl refl
last_unit bytes at from (u ∷ us) h = by_rest (last_unit bytes at (suc from) us h.1)
  where
    inside : at + 2 * from + 2 ≤ length bytes
    inside = h.0.inside

    by_rest : (length us ≡ 0) ⊎ (at + 2 * (suc from + length us) ≤ length bytes) → (length (u ∷ us) ≡ 0) ⊎ (at + 2 * (from + length (u ∷ us)) ≤ length bytes)
    by_rest (inl e) = inr (omega (arith, inside, e))
    by_rest (inr e) = inr (omega (arith, e))

-- units lie in the file
few_units : (bytes : List ℕ) (at : ℕ) (units : List ℕ) → length bytes < 2 ^ 32 → Each (λ i unit. Is16 bytes (at + 2 * i) unit) 0 units → length units < 2 ^ 31
few_units bytes at units few h = by_last (last_unit bytes at 0 units h)
  where
    by_last : (length units ≡ 0) ⊎ (at + 2 * (0 + length units) ≤ length bytes) → length units < 2 ^ 31
    by_last (inl e) = omega (arith, e)
    by_last (inr e) = omega (arith, e, few)

abbrev body_made : ℕ → ℕ → List Insn → List Region → Body
body_made registers ins insns regions = record { registers = registers; ins = ins; insns = insns; regions = regions }

-- what is known of two codes at one place with one frame
record SameCode (f : Frame) (g : Frame) (p q : Places) (b c : Body) : Type 0 where
  debug : f.debug ≡ g.debug
  places : p ≡ q
  body : b ≡ c

code_with : (bytes : List ℕ) (types at : ℕ) (f : Frame) (p q : Places) (b c : Body) → length bytes < 2 ^ 32 → IsCode bytes types at f p b → IsCode bytes types at f q c → SameCode f f p q b c
code_with bytes types at f p q b c few x y =
    let units : x.units ≡ y.units = each_once (λ i unit. Is16 bytes (at + 16 + 2 * i) unit) (λ i m n. once_16 bytes (at + 16 + 2 * i) m n) 0 x.units y.units (x.many ∙ sym y.many) x.are_units y.are_units in
    let pieces : x.pieces ≡ y.pieces = pieces_once x.units 0 x.pieces y.pieces x.swept (subst (λ (us : List ℕ). PiecesTo us 0 y.pieces (length us)) (sym units) y.swept) in
    let places : p ≡ q = x.placed ∙ two places_of units pieces ∙ sym y.placed in
    let low : length x.units < 2 ^ 31 = few_units bytes (at + 16) x.units few x.are_units in
    let up : AscendsFrom 0 p.starts = subst (λ (k : Places). AscendsFrom 0 k.starts) (sym x.placed) (starts_ascend x.units 0 0 x.pieces (length x.units) low (omega arith) x.swept) in
    let tries : x.tries ≡ y.tries = each_once (λ i. IsTry bytes (tries_at at f + 8 * i)) (λ i t u. try_once bytes (tries_at at f + 8 * i) t u) 0 x.tries y.tries (x.are_tries.0 ∙ sym y.are_tries.0) x.are_tries.1 y.are_tries.1 in
    let insns : b.insns ≡ c.insns = insns_once p up (instructions x.pieces) b.insns c.insns x.insns
    (subst (λ (k : Places). AreInsns k (instructions x.pieces) c.insns) (sym places) (subst (λ (ps : List Piece). AreInsns q (instructions ps) c.insns) (sym pieces) y.insns)) in
    let regions : b.regions ≡ c.regions = regions_once bytes p up (lists_at at f) types (covering p x.tries) b.regions c.regions x.regions
    (subst (λ (k : Places). AreRegions bytes k (lists_at at f) types (covering k x.tries) c.regions) (sym places) (subst (λ (ts : List Try). AreRegions bytes q (lists_at at f) types (covering q ts) c.regions) (sym tries) y.regions)) in
    record { debug = refl; places = places; body = four body_made (sym x.registers ∙ y.registers) (sym x.ins ∙ y.ins) insns regions }

code_once : (bytes : List ℕ) (types at : ℕ) (f g : Frame) (p q : Places) (b c : Body) → length bytes < 2 ^ 32 → IsCode bytes types at f p b → IsCode bytes types at g q c → SameCode f g p q b c
code_once bytes types at f g p q b c few x y =
    let same = frame_once bytes at f g x.frame y.frame in
    subst (λ (k : Frame). SameCode f k p q b c) same (code_with bytes types at f p q b c few x (subst (λ (k : Frame). IsCode bytes types at k q c) (sym same) y))

-- the body and the lines that stand at an offset
pub code_of_once : (bytes : List ℕ) (types at : ℕ) (b c : Option Body) (ls ms : List ℕ) → length bytes < 2 ^ 32 → HasCode bytes types at b ls → HasCode bytes types at c ms → (b ≡ c) × (ls ≡ ms)
code_of_once bytes types zero None None ls ms few a b = (refl, a ∙ sym b)
code_of_once bytes types zero None (Some y) ls ms few a b = absurd b
code_of_once bytes types zero (Some x) c ls ms few a b = absurd a
code_of_once bytes types (suc k) None c ls ms few a b = absurd a
code_of_once bytes types (suc k) (Some x) None ls ms few a b = absurd b
code_of_once bytes types (suc k) (Some x) (Some y) ls ms few a b =
    let s = code_once bytes types (suc k) a.frame b.frame a.places b.places x y few a.code b.code in
    (ap (λ (z : Body). Some z) s.body, a.are_lines ∙ two (λ (d : ℕ) (p : Places). lines_of bytes d p.starts) s.debug s.places ∙ sym b.are_lines)
