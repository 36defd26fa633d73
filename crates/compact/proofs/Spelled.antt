-- With numbers that don't rise, an instruction has a spelling where it had one, and gets no longer.
use Rattle.std.proofs.Common.{◌≡◌, ℕ, ◌≤◌, Bool, true, false, List, [], ◌∷◌, map, length, refl, sym, ap, ◌∙◌, subst, ◌⊎◌, inl, inr, arith}
use Rattle.std.specs.Prelude.{◌&&◌, nat_eq, nat_lt, nat_le, if◌then◌else◌, ℤ}
use Rattle.std.specs.List.{list_all}
use Rattle.std.proofs.lemmas.Bool.{eqb-true, eq-eqb, ltb-true, lt-ltb, and_parts, and_from, or_cases, or_left, or_right, false≢true, cases_Bool}
use Rattle.std.proofs.lemmas.List.{length-map}
use Rattle.insn_set.specs.declared.form.Insn.{Insn}
use Rattle.insn_set.specs.declared.form.Insn.TheVariants.{Nop, Move, MoveResult, MoveException, ReturnVoid, Return, Const, ConstWide, ConstString, ConstClass, MonitorEnter, MonitorExit, CheckCast, InstanceOf, ArrayLength, NewInstance, NewArray, FilledNewArray, FillArray, Throw, Goto, PackedSwitch, SparseSwitch, Cmp, If, IfZero, ArrayGet, ArrayPut, InstanceGet, InstancePut, StaticGet, StaticPut, Invoke, Unary, Binary, Literal}
use Rattle.insn_set.specs.declared.format.Format.{Format}
use Rattle.insn_set.specs.declared.format.Format.TheVariants.{F10x, F12x, F11n, F11x, F10t, F20t, F22x, F21t, F21s, F21h, F21c, F23x, F22b, F22t, F22s, F22c, F30t, F32x, F31i, F31t, F31c, F35c, F3rc, F51l}
use Rattle.insn_set.specs.Formats.{format_units}
use Rattle.insn_set.specs.Spelling.{is_encodable, units_of, fits_byte, fits_short, fits_nibble, is_multiple, takes_short, is_width, fits_width, keys_ascend, fit_call, fit_nibbles, are_adjacent}
use Rattle.insn_regs.specs.Remade.{remade}

least_units : (f : Format) → 1 ≤ format_units f
least_units F10x = omega arith
least_units F12x = omega arith
least_units F11n = omega arith
least_units F11x = omega arith
least_units F10t = omega arith
least_units F20t = omega arith
least_units F22x = omega arith
least_units F21t = omega arith
least_units F21s = omega arith
least_units F21h = omega arith
least_units F21c = omega arith
least_units F23x = omega arith
least_units F22b = omega arith
least_units F22t = omega arith
least_units F22s = omega arith
least_units F22c = omega arith
least_units F30t = omega arith
least_units F32x = omega arith
least_units F31i = omega arith
least_units F31t = omega arith
least_units F31c = omega arith
least_units F35c = omega arith
least_units F3rc = omega arith
least_units F51l = omega arith

-- a shorter choice, where its test still holds
pick : (x y : Bool) (f g h : Format) → (x ≡ true → y ≡ true) → format_units f ≤ format_units g → format_units h ≤ format_units g → format_units (if y then f else h) ≤ format_units (if x then f else g)
pick true true f g h k a b = omega arith
pick true false f g h k a b = absurd (false≢true (k refl))
pick false true f g h k a b = a
pick false false f g h k a b = b

call_units : (x : Bool) → format_units (if x then F35c else F3rc) ≡ 3
call_units true = refl
call_units false = refl

-- the registers of a call by a range stay one behind the other
abbrev pub Adjoins : (ℕ → ℕ) → Insn → Type 0
Adjoins g (FilledNewArray kind args) = fit_nibbles args ≡ false → are_adjacent args ≡ true → are_adjacent (map g args) ≡ true
Adjoins g (Invoke kind method args) = fit_nibbles args ≡ false → are_adjacent args ≡ true → are_adjacent (map g args) ≡ true
Adjoins g f = Unit {0}

module _ (g : ℕ → ℕ) (falls : (r : ℕ) → g r ≤ r) where
  below : (a n : ℕ) → nat_lt a n ≡ true → nat_lt (g a) n ≡ true
  below a n h = lt-ltb (g a) n (omega (arith, falls a, ltb-true a n h))

  beside : (a n : ℕ) (x : Bool) → (nat_lt a n && x) ≡ true → (nat_lt (g a) n && x) ≡ true
  beside a n x h = let p : (nat_lt a n ≡ true) × (x ≡ true) = and_parts (nat_lt a n) x h in and_from (nat_lt (g a) n) x (below a n p.0) p.1

  two : (a b n : ℕ) → (nat_lt a n && nat_lt b n) ≡ true → (nat_lt (g a) n && nat_lt (g b) n) ≡ true
  two a b n h = let p : (nat_lt a n ≡ true) × (nat_lt b n ≡ true) = and_parts (nat_lt a n) (nat_lt b n) h in and_from (nat_lt (g a) n) (nat_lt (g b) n) (below a n p.0) (below b n p.1)

  three : (a b c n : ℕ) → (nat_lt a n && (nat_lt b n && nat_lt c n)) ≡ true → (nat_lt (g a) n && (nat_lt (g b) n && nat_lt (g c) n)) ≡ true
  three a b c n h =
      let p : (nat_lt a n ≡ true) × ((nat_lt b n && nat_lt c n) ≡ true) = and_parts (nat_lt a n) (nat_lt b n && nat_lt c n) h in
      and_from (nat_lt (g a) n) (nat_lt (g b) n && nat_lt (g c) n) (below a n p.0) (two b c n p.1)

  two_and : (a b n : ℕ) (x : Bool) → (nat_lt a n && (nat_lt b n && x)) ≡ true → (nat_lt (g a) n && (nat_lt (g b) n && x)) ≡ true
  two_and a b n x h =
      let p : (nat_lt a n ≡ true) × ((nat_lt b n && x) ≡ true) = and_parts (nat_lt a n) (nat_lt b n && x) h in
      and_from (nat_lt (g a) n) (nat_lt (g b) n && x) (below a n p.0) (beside b n x p.1)

  all_below : (n : ℕ) (xs : List ℕ) → list_all (λ r. nat_lt r n) xs ≡ true → list_all (λ r. nat_lt r n) (map g xs) ≡ true
  all_below n [] h = h
  all_below n (x ∷ xs) h =
      let p : (nat_lt x n ≡ true) × (list_all (λ r. nat_lt r n) xs ≡ true) = and_parts (nat_lt x n) (list_all (λ r. nat_lt r n) xs) h in
      and_from (nat_lt (g x) n) (list_all (λ r. nat_lt r n) (map g xs)) (below x n p.0) (all_below n xs p.1)

  nibbles : (xs : List ℕ) → fit_nibbles xs ≡ true → fit_nibbles (map g xs) ≡ true
  nibbles xs h =
      let p : (nat_le (length xs) 5 ≡ true) × (list_all (λ r. nat_lt r 16) xs ≡ true) = and_parts (nat_le (length xs) 5) (list_all (λ r. nat_lt r 16) xs) h in
      and_from (nat_le (length (map g xs)) 5) (list_all (λ r. nat_lt r 16) (map g xs)) (subst (λ n. nat_le n 5 ≡ true) (sym (length-map xs g)) p.0) (all_below 16 xs p.1)

  call : (xs : List ℕ) → (fit_nibbles xs ≡ false → are_adjacent xs ≡ true → are_adjacent (map g xs) ≡ true) → fit_call xs ≡ true → fit_call (map g xs) ≡ true
  call xs k h = at (cases_Bool (fit_nibbles xs))
    where
      at : (fit_nibbles xs ≡ true) ⊎ (fit_nibbles xs ≡ false) → fit_call (map g xs) ≡ true
      at (inl e) = or_left (fit_nibbles (map g xs)) (nat_lt (length (map g xs)) 256 && are_adjacent (map g xs)) (nibbles xs e)
      at (inr e) = elim (or_cases (fit_nibbles xs) (nat_lt (length xs) 256 && are_adjacent xs) h) [
        | inl i ↦ absurd (false≢true (sym e ∙ i))
        | inr i ↦
            let p : (nat_lt (length xs) 256 ≡ true) × (are_adjacent xs ≡ true) = and_parts (nat_lt (length xs) 256) (are_adjacent xs) i in
            or_right (fit_nibbles (map g xs)) (nat_lt (length (map g xs)) 256 && are_adjacent (map g xs)) (and_from (nat_lt (length (map g xs)) 256) (are_adjacent (map g xs)) (subst (λ n. nat_lt n 256 ≡ true) (sym (length-map xs g)) p.0) (k e p.1))
      ]

  pub still_encodable : (f : Insn) → Adjoins g f → is_encodable f ≡ true → is_encodable (remade g g f) ≡ true
  still_encodable Nop k h = h
  still_encodable (Move slot to from) k h = h
  still_encodable (MoveResult slot to) k h = below to 256 h
  still_encodable (MoveException to) k h = below to 256 h
  still_encodable ReturnVoid k h = h
  still_encodable (Return slot from) k h = below from 256 h
  still_encodable (Const to value) k h = below to 256 h
  still_encodable (ConstWide to value) k h = below to 256 h
  still_encodable (ConstString to string) k h = below to 256 h
  still_encodable (ConstClass to kind) k h = below to 256 h
  still_encodable (MonitorEnter on) k h = below on 256 h
  still_encodable (MonitorExit on) k h = below on 256 h
  still_encodable (CheckCast on kind) k h = below on 256 h
  still_encodable (InstanceOf to from kind) k h = two to from 16 h
  still_encodable (ArrayLength to from) k h = two to from 16 h
  still_encodable (NewInstance to kind) k h = below to 256 h
  still_encodable (NewArray to size kind) k h = two to size 16 h
  still_encodable (FilledNewArray kind args) k h = call args k h
  still_encodable (FillArray on width items) k h = beside on 256 (is_width width && (nat_lt (length items) 4294967296 && list_all (λ item. fits_width width item) items)) h
  still_encodable (Throw on) k h = below on 256 h
  still_encodable (Goto target) k h = h
  still_encodable (PackedSwitch on first targets) k h = beside on 256 (nat_lt (length targets) 65536) h
  still_encodable (SparseSwitch on keys targets) k h = beside on 256 (nat_lt (length targets) 65536 && (nat_eq (length keys) (length targets) && keys_ascend keys)) h
  still_encodable (Cmp op to a b) k h = three to a b 256 h
  still_encodable (If test a b target) k h = two a b 16 h
  still_encodable (IfZero test a target) k h = below a 256 h
  still_encodable (ArrayGet item to array index) k h = three to array index 256 h
  still_encodable (ArrayPut item from array index) k h = three from array index 256 h
  still_encodable (InstanceGet item to on field) k h = two to on 16 h
  still_encodable (InstancePut item from on field) k h = two from on 16 h
  still_encodable (StaticGet item to field) k h = below to 256 h
  still_encodable (StaticPut item from field) k h = below from 256 h
  still_encodable (Invoke kind method args) k h = call args k h
  still_encodable (Unary op to from) k h = two to from 16 h
  still_encodable (Binary op to a b) k h = three to a b 256 h
  still_encodable (Literal op to a value) k h = elim (or_cases (nat_lt to 256 && (nat_lt a 256 && fits_byte value)) (nat_lt to 16 && (nat_lt a 16 && takes_short op)) h) [
    | inl i ↦ or_left (nat_lt (g to) 256 && (nat_lt (g a) 256 && fits_byte value)) (nat_lt (g to) 16 && (nat_lt (g a) 16 && takes_short op)) (two_and to a 256 (fits_byte value) i)
    | inr i ↦ or_right (nat_lt (g to) 256 && (nat_lt (g a) 256 && fits_byte value)) (nat_lt (g to) 16 && (nat_lt (g a) 16 && takes_short op)) (two_and to a 16 (takes_short op) i)
  ]

  same_binary : (to a b : ℕ) → (nat_eq to a && (nat_lt to 16 && nat_lt b 16)) ≡ true → (nat_eq (g to) (g a) && (nat_lt (g to) 16 && nat_lt (g b) 16)) ≡ true
  same_binary to a b h =
      let p : (nat_eq to a ≡ true) × ((nat_lt to 16 && nat_lt b 16) ≡ true) = and_parts (nat_eq to a) (nat_lt to 16 && nat_lt b 16) h in
      and_from (nat_eq (g to) (g a)) (nat_lt (g to) 16 && nat_lt (g b) 16) (eq-eqb (g to) (g a) (ap g (eqb-true to a p.0))) (two to b 16 p.1)

  pub no_longer : (f : Insn) (distance : ℤ) → units_of (remade g g f) distance ≤ units_of f distance
  no_longer Nop distance = omega arith
  no_longer (Move slot to from) distance = pick (nat_lt to 16 && nat_lt from 16) (nat_lt (g to) 16 && nat_lt (g from) 16) F12x (if nat_lt to 256 then F22x else F32x) (if nat_lt (g to) 256 then F22x else F32x) (two to from 16) (least_units (if nat_lt to 256 then F22x else F32x)) (pick (nat_lt to 256) (nat_lt (g to) 256) F22x F32x F32x (below to 256) (omega arith) (omega arith))
  no_longer (MoveResult slot to) distance = omega arith
  no_longer (MoveException to) distance = omega arith
  no_longer ReturnVoid distance = omega arith
  no_longer (Return slot from) distance = omega arith
  no_longer (Const to value) distance = let rest : Format = if fits_short value then F21s else if is_multiple value 65536 then F21h else F31i in pick (nat_lt to 16 && fits_nibble value) (nat_lt (g to) 16 && fits_nibble value) F11n rest rest (beside to 16 (fits_nibble value)) (least_units rest) (omega arith)
  no_longer (ConstWide to value) distance = omega arith
  no_longer (ConstString to string) distance = omega arith
  no_longer (ConstClass to kind) distance = omega arith
  no_longer (MonitorEnter on) distance = omega arith
  no_longer (MonitorExit on) distance = omega arith
  no_longer (CheckCast on kind) distance = omega arith
  no_longer (InstanceOf to from kind) distance = omega arith
  no_longer (ArrayLength to from) distance = omega arith
  no_longer (NewInstance to kind) distance = omega arith
  no_longer (NewArray to size kind) distance = omega arith
  no_longer (FilledNewArray kind args) distance = omega (arith, call_units (fit_nibbles args), call_units (fit_nibbles (map g args)))
  no_longer (FillArray on width items) distance = omega arith
  no_longer (Throw on) distance = omega arith
  no_longer (Goto target) distance = omega arith
  no_longer (PackedSwitch on first targets) distance = omega arith
  no_longer (SparseSwitch on keys targets) distance = omega arith
  no_longer (Cmp op to a b) distance = omega arith
  no_longer (If test a b target) distance = omega arith
  no_longer (IfZero test a target) distance = omega arith
  no_longer (ArrayGet item to array index) distance = omega arith
  no_longer (ArrayPut item from array index) distance = omega arith
  no_longer (InstanceGet item to on field) distance = omega arith
  no_longer (InstancePut item from on field) distance = omega arith
  no_longer (StaticGet item to field) distance = omega arith
  no_longer (StaticPut item from field) distance = omega arith
  no_longer (Invoke kind method args) distance = omega (arith, call_units (fit_nibbles args), call_units (fit_nibbles (map g args)))
  no_longer (Unary op to from) distance = omega arith
  no_longer (Binary op to a b) distance = pick (nat_eq to a && (nat_lt to 16 && nat_lt b 16)) (nat_eq (g to) (g a) && (nat_lt (g to) 16 && nat_lt (g b) 16)) F12x F23x F23x (same_binary to a b) (omega arith) (omega arith)
  no_longer (Literal op to a value) distance = pick (nat_lt to 256 && (nat_lt a 256 && fits_byte value)) (nat_lt (g to) 256 && (nat_lt (g a) 256 && fits_byte value)) F22b F22s F22s (two_and to a 256 (fits_byte value)) (omega arith) (omega arith)
