-- Reading a text unit after unit, as a loop does.
use Rattle.std.proofs.Common.{◌≡◌, Bool, true, false, ℕ, zero, suc, ◌+◌, ◌-◌, ◌<◌, ◌≤◌, List, [], ◌∷◌, ◌++◌, length, take, drop, Result, Ok, Err, refl, sym, ap, ◌∙◌, append_assoc, arith}
use Rattle.std.proofs.lemmas.List.{take_rest, drop_all, drop-drop, length-append, length-drop, append-nil}
use Rattle.dex_base.specs.declared.fault.BaseFault.{BaseFault}
use Rattle.dex_base.specs.declared.fault.BaseFault.TheVariants.{NoMemory, Short, LongLeb, BadText, BadDescriptor}
use Rattle.dex_base.specs.Reading.{◌>>=◌, FailsIf, is_no_memory}
use Rattle.dex_base.specs.Mutf8.{unit_in, text_in}
use Rattle.dex_base.proofs.Loop.{fails_known, with_items}

-- the units read before, and those still to be read
abbrev pub with_units : List ℕ → Result (List ℕ × ℕ) BaseFault → Result (List ℕ × ℕ) BaseFault
with_units front read = read >>= λ t. Ok (front ++ t.0, t.1)

-- so many units are read, up to next
pub record HasUnits (bytes : List ℕ) (at units counter next : ℕ) (rest done : List ℕ) : Type 0 where
  pub rest_is : rest ≡ drop next bytes
  pub inside : next ≤ length bytes
  pub from : at ≤ next
  pub counted : length done ≡ counter
  pub gives : with_units done (text_in at next (units - counter) rest) ≡ text_in at at units (drop at bytes)

pub reads_none : (units at : ℕ) → text_in at at units [] ≡ Err (Short at)
unfolding unit_in
reads_none zero at = refl
reads_none (suc k) at = refl

pub reads_nothing : (bytes : List ℕ) (units at : ℕ) → length bytes ≤ at → text_in at at units (drop at bytes) ≡ Err (Short at)
reads_nothing bytes units at le = rw (drop_all at bytes le) (reads_none units at)

regroup : (done : List ℕ) (u : ℕ) (read : Result (List ℕ × ℕ) BaseFault) → with_units done (read >>= λ t. Ok (u ∷ t.0, t.1)) ≡ with_units (done ++ u ∷ []) read
regroup done u (Ok t) = ap (λ xs. Ok (xs, t.1)) (sym (append_assoc done (u ∷ []) t.0))
regroup done u (Err e) = refl

pub HasUnits-fails : (bytes : List ℕ) (at units counter next : ℕ) (rest done : List ℕ) (e : BaseFault) → HasUnits bytes at units counter next rest done → counter < units
    → Err e ≡ unit_in at next rest → FailsIf (is_no_memory e) e (text_in at at units (drop at bytes))
HasUnits-fails bytes at units counter next rest done e h few is =
    let k : units - counter ≡ suc (units - counter - 1) = omega arith in
    let one : with_units done (text_in at next (units - counter) rest) ≡ Err e = rw (k, ← is) refl in
    fails_known (is_no_memory e) e _ (sym h.gives ∙ one)

pub HasUnits-more : (bytes : List ℕ) (at units counter next : ℕ) (rest done : List ℕ) (unit len : ℕ) → HasUnits bytes at units counter next rest done → counter < units
    → Ok (unit, len) ≡ unit_in at next rest → len ≤ length rest → HasUnits bytes at units (counter + 1) (next + len) (take (length rest - len) (drop len rest)) (done ++ unit ∷ [])
HasUnits-more bytes at units counter next rest done unit len h few is fits =
    let k : units - counter ≡ suc (units - (counter + 1)) = omega arith in
    let one : with_units done (text_in at next (units - counter) rest) ≡ with_units (done ++ unit ∷ []) (text_in at (next + len) (units - (counter + 1)) (drop len rest)) = rw (k, ← is) (regroup done unit (text_in at (next + len) (units - (counter + 1)) (drop len rest))) in
    rw (take_rest rest len) (record {
      rest_is = ap (drop len) h.rest_is ∙ drop-drop len next bytes;
      inside = omega (arith, fits, ap length h.rest_is, length-drop next bytes, h.inside);
      from = omega (arith, h.from);
      counted = omega (arith, length-append done (unit ∷ []), h.counted);
      gives = sym one ∙ h.gives;
    })
