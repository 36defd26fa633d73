-- What the chosen numbers keep of a body, and that a body whose registers keep their numbers is packed.
use Rattle.std.proofs.Common.{◌≡◌, ◌⊎◌, inl, inr, ℕ, suc, ◌+◌, ◌-◌, ◌<◌, ◌≤◌, Bool, true, false, List, map, length, Option, Some, None, nat_eq, Contains, refl, sym, ap, ◌∙◌, subst, arith}
use Rattle.std.specs.Prelude.{◌&&◌, slice_index, if◌then◌else◌}
use Rattle.std.specs.List.{list_any}
use Rattle.std.proofs.lemmas.Bool.{cases_lt, cases_order, cases_Bool, false≢true, and_parts, not-true, lt-ltb, le-ltb}
use Rattle.insn_set.specs.declared.form.Insn.{Insn}
use Rattle.program_model.specs.declared.body.Body.{Body}
use Rattle.insn_regs.specs.Remade.{remade}
use Rattle.walk_marks.specs.Walks.{is_on, row_of}
use Rattle.body_graph.specs.Walks.{insn_at, IsRead}
use Rattle.compact.specs.Packed.{Conflict, IsPacked, wides_of, uses, is_used, is_free, binds, locals}
use Rattle.compact.specs.Ties.{has_some, ties_of, ties_at}
use Rattle.compact.specs.Clashes.{Meets, IsClash, AreUsed}
use Rattle.compact.specs.declared.clash.Clash.{Clash}
use Rattle.compact.specs.Choosing.{IsChoice, Moves}
use Rattle.compact.specs.Renamed.{renamed, HasRegisters, IsCompacted, IsCounted}
use Rattle.body_graph.proofs.Members.{none}
use Rattle.compact.proofs.Rows.{some_row, row_some, any_at, any_place, map_fixed}
use Rattle.compact.proofs.Clashing.{swapped, first_used, second_used, live_used}
use Rattle.compact.proofs.Fixing.{uses_fixed, same_insns}
use Rattle.compact.proofs.Tying.{tie_binds, tie_binds_next, tie_uses, wide_ties, adjoins}
use Rattle.compact.proofs.Spelled.{still_encodable, no_longer}

pub meets_used : (b : Body) (used : List Bool) (c : Clash) (floor : ℕ) → AreUsed b used → IsClash b c → floor ≤ b.registers → (r q : ℕ) → r < floor → Meets c r q → is_on used q ≡ true
meets_used b used c floor are is le r q lt m = let in_body : r < b.registers = omega (arith, le, lt) in are.are q (is.within r q in_body m) ∙ second_used b r q (is.sound r q in_body m)

module _ (w : List (List Bool)) (b : Body) (used : List Bool) (low : List ℕ) (shift : ℕ) (c : IsChoice w b used low shift) where
  abbrev new : ℕ → ℕ
  new r = renamed low shift r

  below : (r : ℕ) → r < length low → new r ≡ slice_index low r
  below r lt = ap (λ t. if t then slice_index low r else r - shift) (lt-ltb r (length low) lt)

  above : (r : ℕ) → length low ≤ r → new r ≡ r - shift
  above r le = ap (λ t. if t then slice_index low r else r - shift) (le-ltb r (length low) le)

  floor_below : length low ≤ b.registers
  floor_below = omega (arith, c.is_floor.low)

  used_on : (r : ℕ) → r < b.registers → is_used b r ≡ true → is_on used r ≡ true
  used_on r lt e = c.are_used.are r lt ∙ e

  on_used : (r : ℕ) → r < b.registers → is_on used r ≡ true → is_used b r ≡ true
  on_used r lt e = sym (c.are_used.are r lt) ∙ e

  tied_here : (r n : ℕ) (f : Insn) → r < b.registers → insn_at b n ≡ Some f → Contains (ties_of w f) r → has_some c.ties r ≡ true
  tied_here r n f lt h d = some_row c.ties r n ((c.are_ties r n lt).1 (subst (λ o. Contains (ties_at w o) r) (sym h) d))

  tied_by : (r : ℕ) → r < b.registers → has_some c.ties r ≡ true → (n : ℕ) × (f : Insn) × (insn_at b n ≡ Some f) × Contains (ties_of w f) r
  tied_by r lt h = let u : (n : ℕ) × Contains (row_of c.ties r) n = row_some c.ties r h in at u.0 (insn_at b u.0) refl ((c.are_ties r u.0 lt).0 u.1)
    where
      at : (n : ℕ) (o : Option Insn) → o ≡ insn_at b n → Contains (ties_at w o) r → (n : ℕ) × (f : Insn) × (insn_at b n ≡ Some f) × Contains (ties_of w f) r
      at n None e d = absurd (none r d)
      at n (Some f) e d = (n, f, sym e, d)

  pub falls : (r : ℕ) → new r ≤ r
  falls r = elim (cases_lt r (length low)) [
    | inl lt ↦ omega (arith, below r lt, c.placed.falls r lt)
    | inr le ↦ omega (arith, above r le)
  ]

  used_top : (r : ℕ) → r < length low → is_used b r ≡ true → new r < c.top
  used_top r lt u = let o : slice_index low r < c.top = c.placed.is_top.over r lt (used_on r (omega (arith, lt, floor_below)) u) in omega (arith, o, below r lt)

  used_below : HasRegisters b → (r : ℕ) → is_used b r ≡ true → r < b.registers
  used_below has r u = let p : (n : ℕ) × (f : Insn) × (insn_at b n ≡ Some f) × (uses f r ≡ true) = any_place (λ i. uses i r) b.insns u in has p.0 r p.1 p.2 p.3

  below_apart : (q r : ℕ) → q < r → r < length low → Conflict b r q → new r ≡ new q → ⊥
  below_apart q r l lt d e =
      let lq : q < length low = omega (arith, l, lt) in
      c.placed.apart q r l lt (c.is_clash.all r q (omega (arith, lt, floor_below)) (omega (arith, lq, floor_below)) d) (sym (below r lt) ∙ e ∙ below q lq)

  low_high : (r s : ℕ) → r < length low → length low ≤ s → is_used b r ≡ true → new r ≡ new s → ⊥
  low_high r s lt le u e = let a : new r < c.top = used_top r lt u in let d : new s ≡ s - shift = above s le in omega (arith, a, d, e, c.is_shift, le)

  apart : (r s : ℕ) → Conflict b r s → new r ≡ new s → r ≡ s
  apart r s d e = at (cases_lt r (length low)) (cases_lt s (length low))
    where
      at : (r < length low) ⊎ (length low ≤ r) → (s < length low) ⊎ (length low ≤ s) → r ≡ s
      at (inl lt) (inl lt') = elim (cases_order r s) [
        | inl i ↦ i
        | inr i ↦ elim i [ inl l ↦ absurd (below_apart r s l lt' (swapped b r s d) (sym e)) | inr l ↦ absurd (below_apart s r l lt d e) ]
      ]
      at (inl lt) (inr le) = absurd (low_high r s lt le (first_used b r s d) e)
      at (inr le) (inl lt) = absurd (low_high s r lt le (second_used b r s d) (sym e))
      at (inr le) (inr le') = omega (arith, above r le, above s le', e, c.is_shift, le, le')

  -- tied registers stay side by side
  side_by_side : (r n : ℕ) (f : Insn) → insn_at b n ≡ Some f → Contains (ties_of w f) r → new (r + 1) ≡ new r + 1
  side_by_side r n f h d = at (cases_order (r + 1) (length low))
    where
      at : (r + 1 ≡ length low) ⊎ ((r + 1 < length low) ⊎ (length low < r + 1)) → new (r + 1) ≡ new r + 1
      at (inl e) = absurd (false≢true (sym (c.is_floor.ends r (omega (arith, e))) ∙ tied_here r n f (omega (arith, e, floor_below)) h d))
      at (inr (inl lt)) = below (r + 1) lt ∙ c.placed.joined r lt (tied_here r n f (omega (arith, lt, floor_below)) h d) ∙ ap (λ k. k + 1) (sym (below r (omega (arith, lt))))
      at (inr (inr lt)) = omega (arith, above (r + 1) (omega (arith, lt)), above r (omega (arith, lt)), c.is_shift, lt)

  pairs : (n at : ℕ) (f : Insn) → insn_at b n ≡ Some f → list_any (nat_eq at) (wides_of w f) ≡ true → new (at + 1) ≡ new at + 1
  pairs n at f h e = side_by_side at n f h (wide_ties w f at e)

  room : HasRegisters b → (r : ℕ) → is_used b r ≡ true → new r < b.registers - shift
  room has r u = elim (cases_lt r (length low)) [
    | inl lt ↦ omega (arith, used_top r lt u, floor_below, c.is_shift)
    | inr le ↦ omega (arith, above r le, used_below has r u, c.is_shift, le)
  ]

  plain : (r : ℕ) → r < locals b → IsRead b r 0 → new r < (b.registers - shift) - b.ins
  plain r lt d = elim (cases_lt r (length low)) [
    | inl l ↦ omega (arith, used_top r l (live_used b r 0 d), c.is_floor.low, c.is_shift)
    | inr le ↦ omega (arith, above r le, lt, c.is_shift, le)
  ]

  arguments : (i : ℕ) → new (locals b + i) ≡ (b.registers - shift) - b.ins + i
  arguments i = omega (arith, above (locals b + i) (omega (arith, c.is_floor.low)), c.is_floor.low, c.is_shift)

  -- ---- bodies that stay

  module _ (m : Moves used low shift false) where
    same : (q : ℕ) → q < length low → is_used b q ≡ true → slice_index low q ≡ q
    same q lt u = m.1 q lt (used_on q (omega (arith, lt, floor_below)) u)

    not_free : (r n : ℕ) (f : Insn) → insn_at b n ≡ Some f → binds w f r ≡ true → is_free w b r ≡ true → ⊥
    not_free r n f h e free = false≢true (sym (not-true (list_any (λ i. binds w i r) b.insns) free) ∙ any_at (λ i. binds w i r) b.insns n f h e)

    loose : (r : ℕ) → r < b.registers → is_free w b r ≡ true → has_some c.ties r ≡ false
    loose r lt free = elim (cases_Bool (has_some c.ties r)) [
      | inl t ↦ let u : (n : ℕ) × (f : Insn) × (insn_at b n ≡ Some f) × Contains (ties_of w f) r = tied_by r lt t in absurd (not_free r u.0 u.1 u.2 (tie_binds w u.1 r u.3) free)
      | inr e ↦ e
    ]

    loose_before : (r s : ℕ) → r < b.registers → is_free w b r ≡ true → suc s ≡ r → has_some c.ties s ≡ false
    loose_before r s lt free e = elim (cases_Bool (has_some c.ties s)) [
      | inl t ↦
          let u : (n : ℕ) × (f : Insn) × (insn_at b n ≡ Some f) × Contains (ties_of w f) s = tied_by s (omega (arith, lt, e)) t in
          absurd (not_free r u.0 u.1 u.2 (subst (λ k. binds w u.1 k ≡ true) (omega (arith, e)) (tie_binds_next w u.1 s u.3)) free)
      | inr i ↦ i
    ]

    least : (r s : ℕ) → r < locals b → (is_used b r && is_free w b r) ≡ true → s < r → Conflict b r s
    least r s lt e l =
        let p : (is_used b r ≡ true) × (is_free w b r ≡ true) = and_parts (is_used b r) (is_free w b r) e in
        let in_body : r < b.registers = omega (arith, lt) in
        elim (cases_lt r (length low)) [
          | inr le ↦ absurd (false≢true (sym (loose r in_body p.1) ∙ c.is_floor.tied r le lt))
          | inl l' ↦
              let h : (q : ℕ) × (q < r) × (slice_index low q ≡ s) × Meets c.clash r q = c.placed.least r s l' (loose r in_body p.1, λ k i. loose_before r k in_body p.1 i) (omega (arith, same r l' p.0, l)) in
              let d : Conflict b r h.0 = c.is_clash.sound r h.0 in_body h.3 in
              let i : slice_index low h.0 ≡ h.0 = same h.0 (omega (arith, h.1, l')) (second_used b r h.0 d) in
              subst (λ k. Conflict b r k) (sym i ∙ h.2) d
        ]

    greatest : (r : ℕ) → suc r ≡ locals b → is_used b r ≡ true
    greatest r e =
        let in_body : r < b.registers = omega (arith, e) in
        elim (cases_lt r (length low)) [
          | inr le ↦ let u : (n : ℕ) × (f : Insn) × (insn_at b n ≡ Some f) × Contains (ties_of w f) r = tied_by r in_body (c.is_floor.tied r le (omega (arith, e))) in
              any_at (λ i. uses i r) b.insns u.0 u.1 u.2 (tie_uses w u.1 r u.3)
          | inl l ↦
              let h : (q : ℕ) × (q < length low) × (is_on used q ≡ true) × (slice_index low q + 1 ≡ c.top) = c.placed.is_top.some (omega (arith, c.is_shift, m.0, l)) in
              let i : slice_index low h.0 ≡ h.0 = m.1 h.0 h.1 h.2 in
              let k : h.0 ≡ r = omega (arith, i, h.3, c.is_shift, m.0, e, l, c.is_floor.low) in
              subst (λ n. is_used b n ≡ true) k (on_used h.0 (omega (arith, h.1, floor_below)) h.2)
        ]

    packed : IsPacked w b
    packed = record { least = least; greatest = greatest }

  -- ---- bodies that change

  abbrev changed : Body
  changed = record b { registers = b.registers - shift; insns = map (remade new new) b.insns }

  differs : Moves used low shift true → changed ≡ b → ⊥
  differs (inl pos) e = let h : b.registers - shift ≡ b.registers = ap (λ x. x.registers) e in omega (arith, h, pos, c.is_shift, floor_below)
  differs (inr (q, lt, on, ne)) e =
      let u : is_used b q ≡ true = on_used q (omega (arith, lt, floor_below)) on in
      let p : (n : ℕ) × (f : Insn) × (insn_at b n ≡ Some f) × (uses f q ≡ true) = any_place (λ i. uses i q) b.insns u in
      let f : remade new new p.1 ≡ p.1 = map_fixed (remade new new) b.insns p.0 p.1 (ap (λ x. x.insns) e) p.2 in
      ne (sym (below q lt) ∙ uses_fixed new w p.1 q f (λ at k. pairs p.0 at p.1 p.2 k) p.3)

  pub compacted : Moves used low shift true → (d : Body) → d ≡ changed → IsCompacted w b d
  compacted m d is = subst (λ d. IsCompacted w b d) (sym is) (record {
    new = new;
    insns = refl;
    regions = refl;
    ins = refl;
    falls = falls;
    registers = omega arith;
    frame = λ le. omega (arith, le, c.is_shift, c.is_floor.low);
    live = c.is_clash.live;
    is_live = c.is_clash.is_live;
    apart = apart;
    pairs = pairs;
    room = λ has n r f h u. room has r (any_at (λ i. uses i r) b.insns n f h u);
    plain = plain;
    arguments = arguments;
    encodable = λ n f h e. still_encodable new falls f (adjoins w new f (λ r d. side_by_side r n f h d)) e;
    short = λ n f distance h. no_longer new falls f distance;
    settled = λ e. absurd (differs m e);
  })

  pub was_compacted : Moves used low shift true → (d : Body) → d ≡ changed → IsCounted 1 b d
  was_compacted m d is = record { same = λ e. absurd (omega (arith, e)); differs = λ lt e. differs m (sym is ∙ e) }

  pub stays : Moves used low shift false → (d : Body) → d ≡ b → IsCompacted w b d
  stays m d is = subst (λ d. IsCompacted w b d) (sym is) (record {
    new = λ r. r;
    insns = sym (same_insns b.insns);
    regions = refl;
    ins = refl;
    falls = λ r. omega arith;
    registers = omega arith;
    frame = λ le. le;
    live = c.is_clash.live;
    is_live = c.is_clash.is_live;
    apart = λ r s d e. e;
    pairs = λ n at f h e. refl;
    room = λ has n r f h u. has n r f h u;
    plain = λ r lt d. lt;
    arguments = λ i. refl;
    encodable = λ n f h e. still_encodable (λ r. r) (λ r. omega arith) f (adjoins w (λ r. r) f (λ r d. refl)) e;
    short = λ n f distance h. no_longer (λ r. r) (λ r. omega arith) f distance;
    settled = λ e. packed m;
  })
