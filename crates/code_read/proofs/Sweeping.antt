-- A sweep, piece by piece, as the loop does it.
use Rattle.std.proofs.Common.{◌≡◌, ℕ, zero, suc, ◌≤◌, ◌<◌, ◌+◌, ◌-◌, ◌%◌, List, [], ◌∷◌, ◌++◌, length, take, drop, get_or, refl, sym, ap, subst, ◌∙◌, append_assoc, arith, inl, inr}
use Rattle.std.specs.Prelude.{Bool, true, false, not, ◌&&◌, ◌||◌, ◌==◌, cond, Result, Ok, Err, IfOk, IsTrue, if◌then◌else◌}
use Rattle.std.proofs.lemmas.List.{append-nil, take_at, length_push, drop_all, drop-drop, length-drop}
use Rattle.dex_base.specs.Reading.{◌>>=◌}
use Rattle.dex_base.proofs.Decides.{ok_is}
use Rattle.code_read.specs.declared.fault.CodeFault.{CodeFault}
use Rattle.code_read.specs.Found.{Found, found, with_piece}
use Rattle.code_read.specs.Positions.{rises_in}
use Rattle.code_read.specs.Sweep.{Piece, piece, pieces_from, pieces_of, size_in, payload_kind, first_unit, is_payload, is_nop, only_fills, instructions, payloads, starts_of, Places, places, places_of, sweep_of}
use Rattle.code_read.proofs.Rises.{RisesIn, rises_wider, risen}

-- what a sweep ends with, from what it has found, and the pieces to come
abbrev pub finish : Found → List Piece → Found
finish f [] = f
finish f (p ∷ ps) = finish (with_piece f (first_unit p) p.start) ps

abbrev pub ended : List ℕ → Found → Places
ended units f = places units (take f.kept f.starts) f.payloads

abbrev pub ending : List ℕ → Found → Result (List Piece) CodeFault → Result Places CodeFault
ending units f read = read >>= λ ps. Ok (ended units (finish f ps))

-- ---- what is found in the end are the instructions and the payloads

same_places : (units s t p q : List ℕ) → s ≡ t → p ≡ q → places units s p ≡ places units t q
same_places units s t p q a b = rw (a, b) refl

same_found : (s t : List ℕ) (k l : ℕ) (p : List ℕ) → s ≡ t → k ≡ l → found s k p ≡ found t l p
same_found s t k l p a b = rw (a, b) refl

no_fills : (b : Bool) → cond {A = List ℕ} b [] [] ≡ []
no_fills true = refl
no_fills false = refl

nop_stays : (b : Bool) (waiting : List ℕ) (at : ℕ) (p : Piece) (ps : List Piece) → p.start ≡ at
    → cond b [] (waiting ++ at ∷ []) ++ starts_of ps ≡ cond b [] waiting ++ starts_of (cond b ps (p ∷ ps))
nop_stays true waiting at p ps e = refl
nop_stays false waiting at p ps e = append_assoc waiting (at ∷ []) (starts_of ps) ∙ ap (λ (a : ℕ). waiting ++ a ∷ starts_of ps) (sym e)

abbrev Finds : List ℕ → List ℕ → List ℕ → List ℕ → List Piece → Type 0
Finds units kept waiting found_payloads ps = ended units (finish (found (kept ++ waiting) (length kept) found_payloads) ps)
    ≡ places units (kept ++ (cond (only_fills ps) [] waiting ++ starts_of (instructions ps))) (found_payloads ++ starts_of (payloads ps))

-- a piece that is a payload, one that is a nop, and another one
with_payload : (f : Found) (unit at : ℕ) → (payload_kind unit == 0) ≡ false → with_piece f unit at ≡ found (take f.kept f.starts) f.kept (f.payloads ++ at ∷ [])
with_payload f unit at e = ap (λ (b : Bool). cond (not b) (found (take f.kept f.starts) f.kept (f.payloads ++ at ∷ [])) (cond (unit % 256 == 0) (found (f.starts ++ at ∷ []) f.kept f.payloads) (found (f.starts ++ at ∷ []) (length f.starts + 1) f.payloads))) e

with_nop : (f : Found) (unit at : ℕ) → (payload_kind unit == 0) ≡ true → (unit % 256 == 0) ≡ true → with_piece f unit at ≡ found (f.starts ++ at ∷ []) f.kept f.payloads
with_nop f unit at e n = ap (λ (b : Bool). cond (not b) (found (take f.kept f.starts) f.kept (f.payloads ++ at ∷ [])) (cond (unit % 256 == 0) (found (f.starts ++ at ∷ []) f.kept f.payloads) (found (f.starts ++ at ∷ []) (length f.starts + 1) f.payloads))) e
    ∙ ap (λ (b : Bool). cond b (found (f.starts ++ at ∷ []) f.kept f.payloads) (found (f.starts ++ at ∷ []) (length f.starts + 1) f.payloads)) n

with_other : (f : Found) (unit at : ℕ) → (payload_kind unit == 0) ≡ true → (unit % 256 == 0) ≡ false → with_piece f unit at ≡ found (f.starts ++ at ∷ []) (length f.starts + 1) f.payloads
with_other f unit at e n = ap (λ (b : Bool). cond (not b) (found (take f.kept f.starts) f.kept (f.payloads ++ at ∷ [])) (cond (unit % 256 == 0) (found (f.starts ++ at ∷ []) f.kept f.payloads) (found (f.starts ++ at ∷ []) (length f.starts + 1) f.payloads))) e
    ∙ ap (λ (b : Bool). cond b (found (f.starts ++ at ∷ []) f.kept f.payloads) (found (f.starts ++ at ∷ []) (length f.starts + 1) f.payloads)) n

finds_payload : (units kept waiting pays : List ℕ) (p : Piece) (ps : List Piece) → ((k w q : List ℕ) → Finds units k w q ps) → (payload_kind (first_unit p) == 0) ≡ false → Finds units kept waiting pays (p ∷ ps)
finds_payload units kept waiting pays p ps more e =
    let s : take (length kept) (kept ++ waiting) ≡ kept ++ [] = take_at kept waiting (length kept) refl ∙ sym (append-nil kept) in
    let on = with_payload (found (kept ++ waiting) (length kept) pays) (first_unit p) p.start e ∙ same_found (take (length kept) (kept ++ waiting)) (kept ++ []) (length kept) (length kept) (pays ++ p.start ∷ []) s refl in
    let tail : places units (kept ++ (cond (only_fills ps) [] [] ++ starts_of (instructions ps))) ((pays ++ p.start ∷ []) ++ starts_of (payloads ps))
    ≡ places units (kept ++ (cond (only_fills (p ∷ ps)) [] waiting ++ starts_of (instructions (p ∷ ps)))) (pays ++ starts_of (payloads (p ∷ ps)))
    = rw e (same_places units _ _ _ _ (ap (λ (xs : List ℕ). kept ++ (xs ++ starts_of (instructions ps))) (no_fills (only_fills ps))) (append_assoc pays (p.start ∷ []) (starts_of (payloads ps)))) in
    ap (λ (f : Found). ended units (finish f ps)) on ∙ more kept [] (pays ++ p.start ∷ []) ∙ tail

finds_nop : (units kept waiting pays : List ℕ) (p : Piece) (ps : List Piece) → ((k w q : List ℕ) → Finds units k w q ps) → (payload_kind (first_unit p) == 0) ≡ true → (first_unit p % 256 == 0) ≡ true → Finds units kept waiting pays (p ∷ ps)
finds_nop units kept waiting pays p ps more e n =
    let s : (kept ++ waiting) ++ p.start ∷ [] ≡ kept ++ (waiting ++ p.start ∷ []) = append_assoc kept waiting (p.start ∷ []) in
    let on = with_nop (found (kept ++ waiting) (length kept) pays) (first_unit p) p.start e n ∙ same_found ((kept ++ waiting) ++ p.start ∷ []) (kept ++ (waiting ++ p.start ∷ [])) (length kept) (length kept) pays s refl in
    let tail : places units (kept ++ (cond (only_fills ps) [] (waiting ++ p.start ∷ []) ++ starts_of (instructions ps))) (pays ++ starts_of (payloads ps))
    ≡ places units (kept ++ (cond (only_fills (p ∷ ps)) [] waiting ++ starts_of (instructions (p ∷ ps)))) (pays ++ starts_of (payloads (p ∷ ps)))
    = rw (e, n) (same_places units _ _ _ _ (ap (λ (xs : List ℕ). kept ++ xs) (nop_stays (only_fills ps) waiting p.start p (instructions ps) refl)) refl) in
    ap (λ (f : Found). ended units (finish f ps)) on ∙ more kept (waiting ++ p.start ∷ []) pays ∙ tail

finds_other : (units kept waiting pays : List ℕ) (p : Piece) (ps : List Piece) → ((k w q : List ℕ) → Finds units k w q ps) → (payload_kind (first_unit p) == 0) ≡ true → (first_unit p % 256 == 0) ≡ false → Finds units kept waiting pays (p ∷ ps)
finds_other units kept waiting pays p ps more e n =
    let k : List ℕ = (kept ++ waiting) ++ p.start ∷ [] in
    let on = with_other (found (kept ++ waiting) (length kept) pays) (first_unit p) p.start e n ∙ same_found k (k ++ []) (length (kept ++ waiting) + 1) (length k) pays (sym (append-nil k)) (sym (length_push (kept ++ waiting) p.start)) in
    let tail : places units (k ++ (cond (only_fills ps) [] [] ++ starts_of (instructions ps))) (pays ++ starts_of (payloads ps))
    ≡ places units (kept ++ (cond (only_fills (p ∷ ps)) [] waiting ++ starts_of (instructions (p ∷ ps)))) (pays ++ starts_of (payloads (p ∷ ps)))
    = rw (e, n) (same_places units _ _ _ _
    (ap (λ (xs : List ℕ). k ++ (xs ++ starts_of (instructions ps))) (no_fills (only_fills ps))
    ∙ append_assoc (kept ++ waiting) (p.start ∷ []) (starts_of (instructions ps))
    ∙ append_assoc kept waiting (p.start ∷ starts_of (instructions ps))) refl) in
    ap (λ (f : Found). ended units (finish f ps)) on ∙ more k [] pays ∙ tail

by_kind : (units kept waiting pays : List ℕ) (p : Piece) (ps : List Piece) → ((k w q : List ℕ) → Finds units k w q ps) → (a n : Bool) → (payload_kind (first_unit p) == 0) ≡ a → (first_unit p % 256 == 0) ≡ n → Finds units kept waiting pays (p ∷ ps)
by_kind units kept waiting pays p ps more false n e m = finds_payload units kept waiting pays p ps more e
by_kind units kept waiting pays p ps more true true e m = finds_nop units kept waiting pays p ps more e m
by_kind units kept waiting pays p ps more true false e m = finds_other units kept waiting pays p ps more e m

finds : (units : List ℕ) (ps : List Piece) (kept waiting pays : List ℕ) → Finds units kept waiting pays ps
finds units [] kept waiting pays = same_places units _ _ _ _ (take_at kept waiting (length kept) refl ∙ sym (append-nil kept)) (sym (append-nil pays))
finds units (p ∷ ps) kept waiting pays = by_kind units kept waiting pays p ps (λ k w q. finds units ps k w q) (payload_kind (first_unit p) == 0) (first_unit p % 256 == 0) refl refl

finds_all : (units : List ℕ) (ps : List Piece) → ended units (finish (found [] 0 []) ps) ≡ places_of units ps
finds_all units ps = finds units ps [] [] [] ∙ same_places units _ _ _ _ (ap (λ (xs : List ℕ). xs ++ starts_of (instructions ps)) (no_fills (only_fills ps))) refl

begins_with_none : (units : List ℕ) (read : Result (List Piece) CodeFault) → ending units (found [] 0 []) read ≡ (read >>= λ ps. Ok (places_of units ps))
begins_with_none units (Ok ps) = ap Ok (finds_all units ps)
begins_with_none units (Err e) = refl

-- ---- one piece on

skips : (at left : ℕ) (us : List ℕ) → left ≤ length us → pieces_from at left us ≡ pieces_from (at + left) 0 (drop left us)
skips at zero us le = let e : at + 0 ≡ at = omega arith in ap (λ (n : ℕ). pieces_from n 0 us) (sym e)
skips at (suc left) [] le = absurd (omega (arith, le))
skips at (suc left) (u ∷ us) le = let e : suc at + left ≡ at + suc left = omega arith in skips (suc at) left us (omega (arith, le)) ∙ ap (λ (n : ℕ). pieces_from n 0 (drop left us)) e

piece_on : (at size : ℕ) (us : List ℕ) → size_in at us ≡ Ok size → 0 < size → size ≤ length us → pieces_from at 0 us ≡ (pieces_from (at + size) 0 (drop size us) >>= λ ps. Ok (piece at us size ∷ ps))
piece_on at size [] is some le = absurd (omega (arith, some, le))
piece_on at zero (x ∷ xs) is some le = absurd (omega (arith, some))
piece_on at (suc k) (x ∷ xs) is some le =
    let one = ap (λ (r : Result ℕ CodeFault). r >>= λ size. pieces_from (suc at) (size - 1) xs >>= λ ps. Ok (piece at (x ∷ xs) size ∷ ps)) is in
    let j : suc k - 1 ≡ k = omega arith in
    let e : suc at + k ≡ at + suc k = omega arith in
    let two : pieces_from (suc at) (suc k - 1) xs ≡ pieces_from (at + suc k) 0 (drop k xs) =
    ap (λ (n : ℕ). pieces_from (suc at) n xs) j ∙ skips (suc at) k xs (omega (arith, le)) ∙ ap (λ (n : ℕ). pieces_from n 0 (drop k xs)) e in
    one ∙ ap (λ (r : Result (List Piece) CodeFault). r >>= λ ps. Ok (piece at (x ∷ xs) (suc k) ∷ ps)) two

no_piece : (at : ℕ) (us : List ℕ) (e : CodeFault) → size_in at us ≡ Err e → 0 < length us → pieces_from at 0 us ≡ Err e
no_piece at [] e is some = absurd (omega (arith, some))
no_piece at (x ∷ xs) e is some = ap (λ (r : Result ℕ CodeFault). r >>= λ size. pieces_from (suc at) (size - 1) xs >>= λ ps. Ok (piece at (x ∷ xs) size ∷ ps)) is

ending_piece : (units : List ℕ) (f : Found) (p : Piece) (read : Result (List Piece) CodeFault) → ending units f (read >>= λ ps. Ok (p ∷ ps)) ≡ ending units (with_piece f (first_unit p) p.start) read
ending_piece units f p (Ok ps) = refl
ending_piece units f p (Err e) = refl

first_of_piece : (at size : ℕ) (us : List ℕ) → 0 < size → first_unit (piece at us size) ≡ get_or us 0 0
first_of_piece at zero us some = absurd (omega (arith, some))
first_of_piece at (suc k) [] some = refl
first_of_piece at (suc k) (x ∷ xs) some = refl

-- ---- the loop

pub record Sweeps (units : List ℕ) (at : ℕ) (f : Found) : Type 0 where
  pub so_far : ending units f (pieces_from at 0 (drop at units)) ≡ sweep_of units
  pub inside : at ≤ length units

pub sweep_begins : (units : List ℕ) → Sweeps units 0 (found [] 0 [])
unfolding sweep_of
sweep_begins units = record { so_far = begins_with_none units (pieces_of units); inside = omega arith }

pub sweep_goes_on : (units : List ℕ) (at size unit : ℕ) (f g : Found) → Sweeps units at f → at < length units → size_in at (drop at units) ≡ Ok size → 0 < size → size ≤ length (drop at units)
    → unit ≡ get_or (drop at units) 0 0 → g ≡ with_piece f unit at → Sweeps units (at + size) g
sweep_goes_on units at size unit f g s lt is some le u e =
    let us = drop at units in
    let first : unit ≡ first_unit (piece at us size) = u ∙ sym (first_of_piece at size us some) in
    let more = piece_on at size us is some le in
    let rest : drop size us ≡ drop (at + size) units = drop-drop size at units in
    let g_is : g ≡ with_piece f (first_unit (piece at us size)) at = e ∙ ap (λ (n : ℕ). with_piece f n at) first in
    record {
      so_far = ap (λ (h : Found). ending units h (pieces_from (at + size) 0 (drop (at + size) units))) g_is
          ∙ ap (λ (xs : List ℕ). ending units (with_piece f (first_unit (piece at us size)) at) (pieces_from (at + size) 0 xs)) (sym rest)
          ∙ sym (ending_piece units f (piece at us size) (pieces_from (at + size) 0 (drop size us)))
          ∙ ap (λ (r : Result (List Piece) CodeFault). ending units f r) (sym more)
          ∙ s.so_far;
      inside = omega (arith, le, length-drop at units, s.inside);
    }

pub sweep_fails : (units : List ℕ) (at : ℕ) (f : Found) (e : CodeFault) → Sweeps units at f → at < length units → size_in at (drop at units) ≡ Err e → sweep_of units ≡ Err e
sweep_fails units at f e s lt is =
    let none = no_piece at (drop at units) e is (omega (arith, lt, length-drop at units)) in
    sym s.so_far ∙ ap (λ (r : Result (List Piece) CodeFault). ending units f r) none

pub sweep_is_done : (units : List ℕ) (at : ℕ) (f : Found) → Sweeps units at f → length units ≤ at → sweep_of units ≡ Ok (places units (take f.kept f.starts) f.payloads)
sweep_is_done units at f s le = sym s.so_far ∙ ap (λ (xs : List ℕ). ending units f (pieces_from at 0 xs)) (drop_all at units le)

-- ---- what a sweep finds ascends

abbrev Rise : ℕ → ℕ → List Piece → Type 0
Rise low high ps = RisesIn low high (starts_of ps)

one_rises : (at n size : ℕ) (us : List ℕ) (read : Result (List Piece) CodeFault) → IfOk read (λ ps. Rise (suc at) (suc at + n) ps)
    → IfOk (read >>= λ ps. Ok (piece at us size ∷ ps)) (λ ps. Rise at (at + suc n) ps)
one_rises at n size us (Ok ps) h = (omega arith, omega arith, rises_wider (suc at) (suc at + n) (suc at) (at + suc n) (starts_of ps) (omega arith) (omega arith) h)
one_rises at n size us (Err e) h = tt

any_rises : (at n : ℕ) (us xs : List ℕ) (read : Result ℕ CodeFault) → ((left : ℕ) → IfOk (pieces_from (suc at) left xs) (λ ps. Rise (suc at) (suc at + n) ps))
    → IfOk (read >>= λ size. pieces_from (suc at) (size - 1) xs >>= λ ps. Ok (piece at us size ∷ ps)) (λ ps. Rise at (at + suc n) ps)
any_rises at n us xs (Ok size) h = one_rises at n size us (pieces_from (suc at) (size - 1) xs) (h (size - 1))
any_rises at n us xs (Err e) h = tt

wider_rises : (at n : ℕ) (read : Result (List Piece) CodeFault) → IfOk read (λ ps. Rise (suc at) (suc at + n) ps) → IfOk read (λ ps. Rise at (at + suc n) ps)
wider_rises at n (Ok ps) h = rises_wider (suc at) (suc at + n) at (at + suc n) (starts_of ps) (omega arith) (omega arith) h
wider_rises at n (Err e) h = tt

pieces_rise : (us : List ℕ) (at left : ℕ) → IfOk (pieces_from at left us) (λ ps. Rise at (at + length us) ps)
pieces_rise [] at left = tt
pieces_rise (u ∷ us) at (suc left) = wider_rises at (length us) (pieces_from (suc at) left us) (pieces_rise us (suc at) left)
pieces_rise (u ∷ us) at zero = any_rises at (length us) (u ∷ us) us (size_in at (u ∷ us)) (λ left. pieces_rise us (suc at) left)

chosen_rises : (b : Bool) (low high : ℕ) (p : Piece) (ps : List Piece) → low ≤ p.start → p.start < high → Rise (suc p.start) high ps → Rise low high (cond b ps (p ∷ ps))
chosen_rises true low high p ps le lt r = rises_wider (suc p.start) high low high (starts_of ps) (omega (arith, le)) (omega arith) r
chosen_rises false low high p ps le lt r = (le, lt, r)

added_rises : (b : Bool) (low high : ℕ) (p : Piece) (ps : List Piece) → low ≤ p.start → p.start < high → Rise (suc p.start) high ps → Rise low high (cond b (p ∷ ps) ps)
added_rises true low high p ps le lt r = (le, lt, r)
added_rises false low high p ps le lt r = rises_wider (suc p.start) high low high (starts_of ps) (omega (arith, le)) (omega arith) r

instructions_rise : (ps : List Piece) (low high : ℕ) → Rise low high ps → Rise low high (instructions ps)
instructions_rise [] low high r = tt
instructions_rise (p ∷ ps) low high r = chosen_rises (only_fills (p ∷ ps)) low high p (instructions ps) r.0 r.1 (instructions_rise ps (suc p.start) high r.2)

payloads_rise : (ps : List Piece) (low high : ℕ) → Rise low high ps → Rise low high (payloads ps)
payloads_rise [] low high r = tt
payloads_rise (p ∷ ps) low high r = added_rises (is_payload p) low high p (payloads ps) r.0 r.1 (payloads_rise ps (suc p.start) high r.2)

read_rises : (units starts pays : List ℕ) (read : Result (List Piece) CodeFault) → IfOk read (λ ps. Rise 0 (length units) ps) → (read >>= λ ps. Ok (places_of units ps)) ≡ Ok (places units starts pays)
    → RisesIn 0 (length units) starts × RisesIn 0 (length units) pays
read_rises units starts pays (Ok ps) h e =
    let same = ok_is (places_of units ps) (places units starts pays) e in (
      subst (RisesIn 0 (length units)) (ap (λ (p : Places). p.starts) same) (instructions_rise ps 0 (length units) h),
      subst (RisesIn 0 (length units)) (ap (λ (p : Places). p.payloads) same) (payloads_rise ps 0 (length units) h),
    )
read_rises units starts pays (Err f) h e = absurd cc

rises_both : (units starts pays : List ℕ) → sweep_of units ≡ Ok (places units starts pays) → RisesIn 0 (length units) starts × RisesIn 0 (length units) pays
unfolding sweep_of
rises_both units starts pays e =
    let zero_add : 0 + length units ≡ length units = omega arith in
    read_rises units starts pays (pieces_of units) (subst (λ (n : ℕ). IfOk (pieces_of units) (λ ps. Rise 0 n ps)) zero_add (pieces_rise units 0 0)) e

pub starts_rise : (units starts pays : List ℕ) → sweep_of units ≡ Ok (places units starts pays) → IsTrue (rises_in 0 (length units) starts)
starts_rise units starts pays e = risen 0 (length units) starts (rises_both units starts pays e).0

pub pays_rise : (units starts pays : List ℕ) → sweep_of units ≡ Ok (places units starts pays) → IsTrue (rises_in 0 (length units) pays)
pays_rise units starts pays e = risen 0 (length units) pays (rises_both units starts pays e).1
