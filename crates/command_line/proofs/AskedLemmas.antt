-- What is asked for is what the commands are made from.
use Rattle.std.proofs.Common.{◌≡◌, ◌==◌, ◌&&◌, ◌≤◌, inl, inr, ℕ, Bool, true, false, cond, List, [], ◌∷◌, length, Option, Some, None, option_map, option_and_then, option_to_list, is_none, count_by, codes, bytes_eq, nat_le, refl, sym, ap, subst, subst₂, ◌∙◌, eq-or-lt_of_le, eqb-true, eq-eqb, le-leb, leb-true, arith, if◌then◌else◌}
use Rattle.command_line.specs.declared.command.CommandWords.{CommandWords}
use Rattle.command_line.specs.declared.command.CommandWords.TheVariants.{Nothing, Optimise, Check, Live, Trace, Workload}
use Rattle.command_line.specs.declared.command.OptimiseWords.{OptimiseWords}
use Rattle.command_line.specs.declared.command.Tell.{Tell}
use Rattle.command_line.specs.declared.sorted.Sorted.{Sorted}
use Rattle.command_line.specs.declared.verb.Verb.{Verb}
use Rattle.command_line.specs.declared.verb.Verb.TheVariants as verb
use Rattle.command_line.specs.Spelling.{IsNumber, AsksOptimise, Asks, AsksFor, command_name, is_at_most}
use Rattle.command_line.specs.Reading.{number_of, number_within, one_word, two_words, three_words, four_words, one_at_most, optimise_from, with_library, without_options, check_from, live_from, trace_from, workload_from, command_from, verb_of}
use Rattle.command_line.proofs.NumberLemmas.{number_of-numeral, number_of-some}
use Rattle.command_line.proofs.OptionLemmas.{mapped, chained, and-left, and-right, both, true_or_false}
use Rattle.std.proofs.lemmas.Slice.Eq.{bytes_eq-Decides}

one-again : (library : Option (List ℕ)) → one_at_most (option_to_list library) ≡ Some library
one-again None = refl
one-again (Some name) = refl

within-again : (low high n : ℕ) (text : List ℕ) → IsNumber text n → low ≤ n → n ≤ high → number_within low high text ≡ Some n
within-again low high n text h above below =
    let is : number_of text ≡ Some n = number_of-numeral text h.digits h.short ∙ ap Some (sym h.value) in
    let test : (nat_le low n && nat_le n high) ≡ true = both _ _ (le-leb low n above) (le-leb n high below) in
    ap (option_and_then (λ m. if nat_le low m && nat_le m high then Some m else None)) is ∙ rw test refl

inline-again : (inlines : ℕ) (inline : Bool) → inlines ≡ (if inline then 1 else 0) → (nat_le inlines 1 ≡ true) × ((inlines == 1) ≡ inline)
inline-again inlines true e = rw e (refl, refl)
inline-again inlines false e = rw e (refl, refl)

optimise-again : (s : Sorted) (o : OptimiseWords) → AsksOptimise s o → optimise_from s ≡ Some o
optimise-again s o h =
    let inline = inline-again s.inlines o.inline h.inline in
    let test : (nat_le (count_by is_at_most s.tells) 1 && nat_le s.inlines 1) ≡ true = both _ _ (le-leb _ 1 h.once) inline.0 in
    let library : one_at_most s.libraries ≡ Some o.library = ap one_at_most h.libraries ∙ one-again o.library in
    rw (test, h.files, library, inline.1, h.tells) refl

library-again : (s : Sorted) (plain : List (List ℕ)) (library : Option (List ℕ)) → Asks s plain library → with_library s ≡ Some (plain, library)
library-again s plain library h =
    let one : one_at_most s.libraries ≡ Some library = ap one_at_most h.libraries ∙ one-again library in
    rw (h.tells, h.inline, one, h.files) refl

plain-again : (s : Sorted) (plain : List (List ℕ)) → Asks s plain None → without_options s ≡ Some plain
plain-again s plain h = ap (option_and_then (λ asked. if is_none asked.1 then Some asked.0 else None)) (library-again s plain None h)

abbrev pub verb_of_command : CommandWords → Option Verb
verb_of_command Nothing = None
verb_of_command (Optimise o) = Some verb.Optimise
verb_of_command (Check input) = Some verb.Check
verb_of_command (Live rules input library) = Some verb.Live
verb_of_command (Trace rules input script steps library) = Some verb.Trace
verb_of_command (Workload count) = Some verb.Workload

pub verb_of-name : (c : CommandWords) → verb_of (command_name c) ≡ verb_of_command c
verb_of-name Nothing = refl
verb_of-name (Optimise o) = refl
verb_of-name (Check input) = refl
verb_of-name (Live rules input library) = refl
verb_of-name (Trace rules input script steps library) = refl
verb_of-name (Workload count) = refl

-- what the verb makes of what is asked for
abbrev pub made_by : Option Verb → Sorted → Option CommandWords
made_by v s = option_and_then (λ w. command_from w s) v

pub asks-again : (s : Sorted) (c : CommandWords) → AsksFor s c → made_by (verb_of_command c) s ≡ Some c
asks-again s Nothing h = absurd h
asks-again s (Optimise o) h = ap (option_map Optimise) (optimise-again s o h)
asks-again s (Check input) h = ap (option_and_then (λ plain. option_map Check (one_word plain))) (plain-again s (input ∷ []) h)
asks-again s (Live rules input library) h =
    ap (option_and_then (λ asked. option_map (λ files. Live files.0 files.1 asked.1) (two_words asked.0))) (library-again s (rules ∷ input ∷ []) library h)
asks-again s (Trace rules input script steps library) h =
    ap (option_and_then (λ asked. option_and_then (λ files.
    option_map (λ n. Trace files.0 files.1 files.2 n asked.1) (number_within 0 1000000 files.3)) (four_words asked.0)))
    (library-again s (rules ∷ input ∷ script ∷ h.0 ∷ []) library h.1)
    ∙ ap (option_map (λ n. Trace rules input script n library)) (within-again 0 1000000 steps h.0 h.2 (omega arith) h.3)
asks-again s (Workload count) h =
    ap (option_and_then (λ plain. option_map Workload (option_and_then (number_within 1 2000) (one_word plain)))) (plain-again s (h.0 ∷ []) h.1)
    ∙ ap (option_map Workload) (within-again 1 2000 count h.0 h.2 h.3 h.4)

-- ---- and the other way round

abbrev pub verb_name : Verb → List ℕ
verb_name verb.Optimise = codes "optimise"
verb_name verb.Check = codes "check"
verb_name verb.Live = codes "live"
verb_name verb.Trace = codes "trace"
verb_name verb.Workload = codes "workload"

tried : (name : List ℕ) (w v : Verb) (other : Option Verb) (b : Bool) → bytes_eq name (verb_name w) ≡ b → cond b (Some w) other ≡ Some v
    → (other ≡ Some v → name ≡ verb_name v) → name ≡ verb_name v
tried name w v other true e h next = let same : w ≡ v = cc in (bytes_eq-Decides name (verb_name w)).0 e ∙ ap verb_name same
tried name w v other false e h next = next h

pub verb_of-is : (name : List ℕ) (v : Verb) → verb_of name ≡ Some v → name ≡ verb_name v
verb_of-is name v h =
    tried name verb.Optimise v _ _ refl h (λ h.
    tried name verb.Check v _ _ refl h (λ h.
    tried name verb.Live v _ _ refl h (λ h.
    tried name verb.Trace v _ _ refl h (λ h.
    tried name verb.Workload v _ _ refl h (λ h. cc)))))

one-is : (words : List (List ℕ)) (word : List ℕ) → one_word words ≡ Some word → words ≡ word ∷ []
one-is [] word h = cc
one-is (a ∷ []) word h = cc
one-is (a ∷ b ∷ rest) word h = cc

two-is : (words : List (List ℕ)) (t : List ℕ × List ℕ) → two_words words ≡ Some t → words ≡ t.0 ∷ t.1 ∷ []
two-is [] t h = cc
two-is (a ∷ []) t h = cc
two-is (a ∷ b ∷ []) t h = let is : (a, b) ≡ t = cc in ap (λ u. u.0 ∷ u.1 ∷ []) is
two-is (a ∷ b ∷ c ∷ rest) t h = cc

three-is : (words : List (List ℕ)) (t : List ℕ × List ℕ × List ℕ) → three_words words ≡ Some t → words ≡ t.0 ∷ t.1 ∷ t.2 ∷ []
three-is [] t h = cc
three-is (a ∷ []) t h = cc
three-is (a ∷ b ∷ []) t h = cc
three-is (a ∷ b ∷ c ∷ []) t h = let is : (a, b, c) ≡ t = cc in ap (λ u. u.0 ∷ u.1 ∷ u.2 ∷ []) is
three-is (a ∷ b ∷ c ∷ d ∷ rest) t h = cc

four-is : (words : List (List ℕ)) (t : List ℕ × List ℕ × List ℕ × List ℕ) → four_words words ≡ Some t → words ≡ t.0 ∷ t.1 ∷ t.2 ∷ t.3 ∷ []
four-is [] t h = cc
four-is (a ∷ []) t h = cc
four-is (a ∷ b ∷ []) t h = cc
four-is (a ∷ b ∷ c ∷ []) t h = cc
four-is (a ∷ b ∷ c ∷ d ∷ []) t h = let is : (a, b, c, d) ≡ t = cc in ap (λ u. u.0 ∷ u.1 ∷ u.2 ∷ u.3 ∷ []) is
four-is (a ∷ b ∷ c ∷ d ∷ e ∷ rest) t h = cc

library-is : (libraries : List (List ℕ)) (library : Option (List ℕ)) → one_at_most libraries ≡ Some library → libraries ≡ option_to_list library
library-is [] library h = let is : None ≡ library = cc in ap option_to_list is
library-is (a ∷ []) library h = let is : Some a ≡ library = cc in ap option_to_list is
library-is (a ∷ b ∷ rest) library h = cc

inline-is : (n : ℕ) → nat_le n 1 ≡ true → n ≡ (if n == 1 then 1 else 0)
inline-is n h = elim (true_or_false (n == 1)) [
  | inl one ↦ rw one (eqb-true n 1 one)
  | inr other ↦ let le : n ≤ 1 = leb-true n 1 h in let not_one : n ≡ 1 → ⊥ = (λ e. let one : (n == 1) ≡ true = eq-eqb n 1 e in cc) in
      rw other (elim (eq-or-lt_of_le le) [ inl e ↦ absurd (not_one e) | inr lt ↦ omega arith ])
]

-- a tested answer
tested : {X : Type 0} (b : Bool) (o : Option X) (x : X) → (if b then o else None) ≡ Some x → (b ≡ true) × (o ≡ Some x)
tested true o x h = (refl, h)
tested false o x h = cc

within-is : (low high n : ℕ) (text : List ℕ) → number_within low high text ≡ Some n → IsNumber text n × (low ≤ n) × (n ≤ high)
within-is low high n text h =
    let k = chained (λ m. if nat_le low m && nat_le m high then Some m else None) (number_of text) n h in
    let t = tested (nat_le low k.0 && nat_le k.0 high) (Some k.0) n k.2 in
    let same : k.0 ≡ n = cc t.1 in
    let number : IsNumber text k.0 = number_of-some text k.0 k.1 in
    let above : low ≤ k.0 = leb-true low k.0 (and-left _ _ t.0) in
    let below : k.0 ≤ high = leb-true k.0 high (and-right _ _ t.0) in
    subst (λ (m : ℕ). IsNumber text m × (low ≤ m) × (m ≤ high)) same (number, above, below)

abbrev with_files : Sorted → List ℕ × List ℕ × List ℕ → Option (List ℕ) → OptimiseWords
with_files s files library = record {
  rules = files.0;
  input = files.1;
  output = files.2;
  tells = s.tells;
  inline = s.inlines == 1;
  library = library;
}

optimise-is : (s : Sorted) (o : OptimiseWords) → optimise_from s ≡ Some o → AsksOptimise s o
optimise-is s o h =
    let t = tested (nat_le (count_by is_at_most s.tells) 1 && nat_le s.inlines 1)
    (option_and_then (λ files. option_map (with_files s files) (one_at_most s.libraries)) (three_words s.plain)) o h in
    let f = chained (λ files. option_map (with_files s files) (one_at_most s.libraries)) (three_words s.plain) o t.1 in
    let l = mapped (with_files s f.0) (one_at_most s.libraries) o f.2 in
    rw l.2 (record {
      files = three-is s.plain f.0 f.1;
      tells = refl;
      once = leb-true (count_by is_at_most s.tells) 1 (and-left _ _ t.0);
      inline = inline-is s.inlines (and-right _ _ t.0);
      libraries = library-is s.libraries l.0 l.1;
    })

no_tells : (tells : List Tell) → length tells ≡ 0 → tells ≡ []
no_tells [] h = refl
no_tells (t ∷ ts) h = absurd (omega (arith, h))

with_library-is : (s : Sorted) (asked : List (List ℕ) × Option (List ℕ)) → with_library s ≡ Some asked → Asks s asked.0 asked.1
with_library-is s asked h =
    let t = tested (length s.tells == 0 && s.inlines == 0) (option_map (λ library. (s.plain, library)) (one_at_most s.libraries)) asked h in
    let l = mapped (λ library. (s.plain, library)) (one_at_most s.libraries) asked t.1 in
    rw l.2 (record {
      files = refl;
      tells = no_tells s.tells (eqb-true (length s.tells) 0 (and-left _ _ t.0));
      inline = eqb-true s.inlines 0 (and-right _ _ t.0);
      libraries = library-is s.libraries l.0 l.1;
    })

none-is : (o : Option (List ℕ)) → is_none o ≡ true → o ≡ None
none-is None h = refl
none-is (Some name) h = cc

without_options-is : (s : Sorted) (plain : List (List ℕ)) → without_options s ≡ Some plain → Asks s plain None
without_options-is s plain h =
    let k = chained (λ asked. if is_none asked.1 then Some asked.0 else None) (with_library s) plain h in
    let t = tested (is_none k.0.1) (Some k.0.0) plain k.2 in
    let same : k.0.0 ≡ plain = cc t.1 in
    let none : k.0.1 ≡ None = none-is k.0.1 t.0 in
    subst₂ (Asks s) same none (with_library-is s k.0 k.1)

-- the verb that made the command is its own, and what it was made from asks for it
pub record IsMadeBy (v : Verb) (s : Sorted) (c : CommandWords) : Type 0 where
  pub name : verb_name v ≡ command_name c
  pub asks : AsksFor s c

check-is : (s : Sorted) (c : CommandWords) → check_from s ≡ Some c → IsMadeBy verb.Check s c
check-is s c h =
    let k = chained (λ plain. option_map Check (one_word plain)) (without_options s) c h in
    let m = mapped Check (one_word k.0) c k.2 in
    rw m.2 (record { name = refl; asks = subst (λ plain. Asks s plain None) (one-is k.0 m.0 m.1) (without_options-is s k.0 k.1) })

live-is : (s : Sorted) (c : CommandWords) → live_from s ≡ Some c → IsMadeBy verb.Live s c
live-is s c h =
    let k = chained (λ asked. option_map (λ files. Live files.0 files.1 asked.1) (two_words asked.0)) (with_library s) c h in
    let m = mapped (λ files. Live files.0 files.1 k.0.1) (two_words k.0.0) c k.2 in
    rw m.2 (record { name = refl; asks = subst (λ plain. Asks s plain k.0.1) (two-is k.0.0 m.0 m.1) (with_library-is s k.0 k.1) })

trace-is : (s : Sorted) (c : CommandWords) → trace_from s ≡ Some c → IsMadeBy verb.Trace s c
trace-is s c h =
    let k = chained (λ asked. option_and_then (λ files.
    option_map (λ steps. Trace files.0 files.1 files.2 steps asked.1) (number_within 0 1000000 files.3)) (four_words asked.0)) (with_library s) c h in
    let f = chained (λ files. option_map (λ steps. Trace files.0 files.1 files.2 steps k.0.1) (number_within 0 1000000 files.3)) (four_words k.0.0) c k.2 in
    let m = mapped (λ steps. Trace f.0.0 f.0.1 f.0.2 steps k.0.1) (number_within 0 1000000 f.0.3) c f.2 in
    let n = within-is 0 1000000 m.0 f.0.3 m.1 in
    rw m.2 (record {
      name = refl;
      asks = (f.0.3, subst (λ plain. Asks s plain k.0.1) (four-is k.0.0 f.0 f.1) (with_library-is s k.0 k.1), n.0, n.2);
    })

workload-is : (s : Sorted) (c : CommandWords) → workload_from s ≡ Some c → IsMadeBy verb.Workload s c
workload-is s c h =
    let k = chained (λ plain. option_map Workload (option_and_then (number_within 1 2000) (one_word plain))) (without_options s) c h in
    let m = mapped Workload (option_and_then (number_within 1 2000) (one_word k.0)) c k.2 in
    let w = chained (number_within 1 2000) (one_word k.0) m.0 m.1 in
    let n = within-is 1 2000 m.0 w.0 w.2 in
    rw m.2 (record {
      name = refl;
      asks = (w.0, subst (λ plain. Asks s plain None) (one-is k.0 w.0 w.1) (without_options-is s k.0 k.1), n.0, n.1, n.2);
    })

pub command_from-is : (v : Verb) (s : Sorted) (c : CommandWords) → command_from v s ≡ Some c → IsMadeBy v s c
command_from-is verb.Optimise s c h =
    let m = mapped Optimise (optimise_from s) c h in rw m.2 (record { name = refl; asks = optimise-is s m.0 m.1 })
command_from-is verb.Check s c h = check-is s c h
command_from-is verb.Live s c h = live-is s c h
command_from-is verb.Trace s c h = trace-is s c h
command_from-is verb.Workload s c h = workload-is s c h
