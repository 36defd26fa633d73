-- A body with lower numbers lays out.
use Rattle.std.proofs.Common.{◌≡◌, ◌⊎◌, inl, inr, ℕ, zero, suc, ◌≤◌, ◌<◌, min, Bool, true, false, List, [], ◌∷◌, map, Option, Some, None, refl, ap, ◌∙◌, arith}
use Rattle.std.specs.Prelude.{Contains, slice_get, nat_lt, if◌then◌else◌}
use Rattle.std.specs.Option.{option_map}
use Rattle.std.proofs.lemmas.Bool.{cases_lt, lt-ltb, le-ltb}
use Rattle.lemmas.proofs.Lists.{map_long, contains_here, contains_there}
use Rattle.insn_set.specs.Formats.{format_units}
use Rattle.insn_set.specs.Spelling.{shortest_string}
use Rattle.insn_set.specs.declared.format.Format.TheVariants.{F21c, F31c}
use Rattle.insn_set.specs.declared.form.Insn.{Insn}
use Rattle.insn_set.specs.declared.form.Insn.TheVariants as insn
use Rattle.program_model.specs.declared.body.Body.{Body}
use Rattle.program_model.specs.declared.body.Handler.{Handler}
use Rattle.program_model.specs.declared.body.Region.{Region}
use Rattle.program_model.specs.declared.pass.Renumber.{Renumber}
use Rattle.dex_defs.specs.LaysOut.{LaysOutBody}
use Rattle.dex_defs.specs.Written.{new_string, new_type, new_insn, new_handler, new_region, new_body}
use Rattle.layout_law.specs.Shorter.{IsNoLonger, Same, Plain, AreNoLonger}
use Rattle.layout_law.specs.Lower.{NumbersFall}
use Rattle.layout_law.proofs.Catches.{handler_with, region_with}
use Rattle.layout_law.proofs.Bodies.{RegionsMove}
use Rattle.layout_law.proofs.Shortened.{shortened_with}
use Rattle.layout_law.proofs.Thinned.{in_map}

string_shorter : (a b : ℕ) → (a ≤ b) ⊎ (a < 65536) → format_units (shortest_string a) ≤ format_units (shortest_string b)
string_shorter a b h = elim (cases_lt a 65536) [
  | inl k ↦ rw (lt-ltb a 65536 k) (at_least (nat_lt b 65536))
  | inr k ↦ (let m : 65536 ≤ b = above h k in rw (le-ltb a 65536 k, le-ltb b 65536 m) (omega arith))
]
  where
    at_least : (p : Bool) → 2 ≤ format_units (if p then F21c else F31c)
    at_least true = omega arith
    at_least false = omega arith

    above : (a ≤ b) ⊎ (a < 65536) → 65536 ≤ a → 65536 ≤ b
    above (inl l) k = omega (arith, l, k)
    above (inr l) k = omega (arith, l, k)

module _ (r : Renumber) where
  insn_shorter : (n : ℕ) (i : Insn) → ((to string : ℕ) → i ≡ insn.ConstString to string → (new_string r string ≤ string) ⊎ (new_string r string < 65536)) → IsNoLonger n i (new_insn r i)
  insn_shorter n (insn.ConstString to string) h = Plain (insn.ConstString to (new_string r string)) refl refl (string_shorter (new_string r string) string (h to string refl))
  insn_shorter n (insn.Goto target) h = Same
  insn_shorter n (insn.If test a b target) h = Same
  insn_shorter n (insn.IfZero test a target) h = Same
  insn_shorter n i h = Plain (new_insn r i) refl refl (omega arith)

  insns_shorter : (n : ℕ) (is : List Insn) → ((k to string : ℕ) → slice_get is k ≡ Some (insn.ConstString to string) → (new_string r string ≤ string) ⊎ (new_string r string < 65536)) → AreNoLonger n is (map (new_insn r) is)
  insns_shorter n [] h = tt
  insns_shorter n (i ∷ is) h = (insn_shorter n i (λ to string e. h zero to string (ap Some e)), insns_shorter (suc n) is (λ k to string e. h (suc k) to string e))

  -- the lower one of both numbers is the new one of each type that a handler names
  abbrev lower_type : ℕ → ℕ
  lower_type k = min k (new_type r k)

  abbrev handler_of : ℕ → ℕ → Handler
  handler_of k position = record { kind = k; position = position }

  handlers_so : (hs : List Handler) → ((h : Handler) → Contains hs h → new_type r h.kind ≤ h.kind) → map (new_handler r) hs ≡ map (handler_with (λ n. n) lower_type) hs
  handlers_so [] f = refl
  handlers_so (h ∷ hs) f =
      let low = f h (contains_here h hs) in
      let e : new_type r h.kind ≡ lower_type h.kind = omega (arith, low) in
      ap (λ k. handler_of k h.position ∷ map (new_handler r) hs) e ∙ ap (λ t. handler_with (λ n. n) lower_type h ∷ t) (handlers_so hs (λ g c. f g (contains_there h hs g c)))

  rest_so : (o : Option ℕ) → o ≡ option_map (λ n. n) o
  rest_so None = refl
  rest_so (Some n) = refl

  region_so : (q : Region) → ((h : Handler) → Contains q.handlers h → new_type r h.kind ≤ h.kind) → new_region r q ≡ region_with (λ n. n) lower_type q
  region_so q f = ap (λ hs. record { first = q.first; end = q.end; handlers = hs; rest = q.rest }) (handlers_so q.handlers f)
      ∙ ap (λ o. record { first = q.first; end = q.end; handlers = map (handler_with (λ n. n) lower_type) q.handlers; rest = o }) (rest_so q.rest)

  regions_so : (b : Body) → NumbersFall r b → RegionsMove (λ n. n) lower_type b (new_body r b)
  regions_so b h q c = let x = in_map (new_region r) b.regions q c in (x.0, x.1, x.2 ∙ region_so x.0 (λ g d. h.types x.0 g x.1 d))

  pub renumbered_lays_out : (b : Body) → NumbersFall r b → LaysOutBody b → LaysOutBody (new_body r b)
  renumbered_lays_out b h l = shortened_with lower_type (λ k. omega arith) b (new_body r b) (insns_shorter 0 b.insns h.strings) (omega (arith, map_long (new_region r) b.regions)) (regions_so b h) l
