-- What objects answer to by name, and what the candidates of interfaces are by name: methods at places that the look-ups by number
-- have.
use Rattle.std.proofs.Common.{◌≡◌, ℕ, zero, suc, ◌<◌, Bool, true, false, List, [], ◌∷◌, length, Option, Some, None, refl, sym, ap, ◌∙◌, subst}
use Rattle.std.specs.Prelude.{◌&&◌, not, cond, flat_map, option_and_then}
use Rattle.program_model.specs.declared.program.MethodAt.{MethodAt}
use Rattle.program_model.specs.declared.program.Program.{Program}
use Rattle.program_model.specs.Lookups.{class_place}
use Rattle.class_defs.specs.ClassGraph.{IsTwice}
use Rattle.class_defs.specs.Places.{super_place, places_of, interface_places, chain_from, chain_of}
use Rattle.class_defs.specs.Members.{is_common, own_virtual}
use Rattle.class_defs.specs.Finding.{Search, first_among, candidates_from, without_repeats, is_037, candidates}
use Rattle.class_defs.proofs.WellFormed.{Sound}
use Rattle.call_graph.specs.Objects as object
use Rattle.call_graph.specs.Objects.{answers_or}
use Rattle.dalvik_defs.specs.Names.{Text}
use Rattle.dalvik_defs.specs.Naming.{text_at, type_at, signature_at, named_class, named_method, named}
use Rattle.dalvik_defs.specs.Find as find
use Rattle.dalvik_defs.specs.Find.{Found, found_in, first_method, is_virtual_method}
use Rattle.dalvik_defs.specs.declared.names.Signature.{Signature}
use Rattle.dalvik_defs.specs.declared.program.NamedClass.{NamedClass}
use Rattle.pass_defs.specs.Calls.{found_by}
use Rattle.pass_defs.specs.Live.{answers_to}
use Rattle.name_bridge.specs.Named.{classes_at, found_at, finds, search_at}
use Rattle.name_bridge.proofs.Above.{chain_by_number, types_listed, names_listed, places_listed, types_fit_listed}
use Rattle.name_bridge.proofs.Found.{IsThere, found_there_is, virtual_answers, first_by_number, first_there}
use Rattle.name_bridge.proofs.Candidates.{Names, candidates_by_number}
use Rattle.removal_law.proofs.Lists.{In, here, there}
use Rattle.reach_bridge.proofs.Mentioned.{nothing_in, only}

-- a method that was found is at one of some places
pub record PlacedAmong (p : Program) (ms : List MethodAt) (f : Found) : Type 0 where
  pub at : MethodAt
  pub is_in : In at ms
  pub found : found_at p at ≡ Some f

pub among_named : (p : Program) (ms : List MethodAt) (fs : List Found) → Names p ms fs → (f : Found) → In f fs → PlacedAmong p ms f
among_named p [] [] k f i = nothing_in f i
among_named p [] (g ∷ fs) k f i = absurd k
among_named p (a ∷ ms) [] k f i = nothing_in f i
among_named p (a ∷ ms) (g ∷ fs) k f (here xs) = record { at = a; is_in = here ms; found = k.0 }
among_named p (a ∷ ms) (g ∷ fs) k f (there z xs i) = let r = among_named p ms fs k.1 f i in record { at = r.at; is_in = there a ms r.is_in; found = r.found }

-- what a search finds is at the place that the search by number finds
pub search_named : (p : Program) (x : Search) (f : Found) → In f (found_by (search_at p x)) → (at : MethodAt) × ((x ≡ Search.Finds at) × (found_at p at ≡ Some f))
search_named p Search.Nothing f i = nothing_in f i
search_named p Search.Clash f i = nothing_in f i
search_named p (Search.Finds at) f i = by (found_at p at) refl i
  where
    by : (o : Option Found) → found_at p at ≡ o → In f (found_by (finds o)) → (a : MethodAt) × ((Search.Finds at ≡ Search.Finds a) × (found_at p a ≡ Some f))
    by None e i = nothing_in f i
    by (Some y) e i = (at, (refl, e ∙ ap (λ z. Some z) (only f y i)))

chain_none : (up : ℕ → Option ℕ) (n : ℕ) → chain_from up n None ≡ []
chain_none up zero = refl
chain_none up (suc n) = refl

-- no interfaces, no candidates
from_nothing : (p : Program) (n name proto : ℕ) → candidates_from n p name proto [] ≡ []
from_nothing p zero name proto = refl
from_nothing p (suc n) name proto = refl

no_candidates : (p : Program) (name proto : ℕ) → candidates p [] name proto ≡ []
no_candidates p name proto = ap (λ l. cond (is_037 p.version && not (is_common p name proto)) (without_repeats l) []) (from_nothing p (length p.classes) name proto) ∙ either (is_037 p.version && not (is_common p name proto))
  where
    either : (b : Bool) → ◌≡◌ {A = List MethodAt} (cond b [] []) []
    either true = refl
    either false = refl

-- an object of a class of a type answers to a method by the method's place
pub record IsAnswer (p : Program) (kind name proto : ℕ) (f : Found) : Type 0 where
  pub class : ℕ
  pub is_class : class_place p kind ≡ Some class
  pub at : MethodAt
  pub answers : In at (object.answers_to p class name proto)
  pub found : found_at p at ≡ Some f

module _ (p : Program) (s : Sound p) (once : (class : ℕ) → IsTwice p class → ⊥) (name proto : ℕ) (hn : name < length p.strings) (hq : proto < length p.protos) where
  abbrev n : Text
  n = text_at p name

  abbrev q : Signature
  q = signature_at p proto

  abbrev named_candidates : List NamedClass → List Found
  named_candidates cs = find.candidates (named p) (flat_map (λ c. c.interfaces) cs) n q

  abbrev named_answers : List NamedClass → Option Found → List Found
  named_answers cs x = elim x as (λ x. List Found) [ Some f ↦ f ∷ [] | None ↦ named_candidates cs ]

  abbrev chain_candidates : List ℕ → List MethodAt
  chain_candidates cs = candidates p (flat_map (interface_places p) cs) name proto

  -- what some classes answer to, by number
  abbrev chain_answers : List ℕ → List MethodAt
  chain_answers cs = answers_or (first_among (own_virtual p name proto) cs) (chain_candidates cs)

  candidates_named : (cs : List ℕ) → Names p (chain_candidates cs) (named_candidates (classes_at p cs))
  candidates_named cs = subst (λ l. Names p (candidates p l name proto) (named_candidates (classes_at p cs))) (places_listed p cs)
      (subst (λ l. Names p (candidates p (places_of p (types_listed p cs)) name proto) (find.candidates (named p) l n q)) (sym (names_listed p cs))
      (candidates_by_number p s name proto hn hq once (types_listed p cs) (types_fit_listed p s cs)))

  along : (cs : List ℕ) (f : Found) → In f (named_answers (classes_at p cs) (first_method is_virtual_method n q (classes_at p cs))) → PlacedAmong p (chain_answers cs) f
  along cs f i = by (first_among (own_virtual p name proto) cs) (first_there p (own_virtual p name proto) (virtual_answers p s name proto hn hq).there cs)
      (subst (λ x. In f (named_answers (classes_at p cs) x)) (first_by_number p is_virtual_method n q (own_virtual p name proto) (virtual_answers p s name proto hn hq) cs) i)
    where
      by : (x : Option MethodAt) → ((at : MethodAt) → x ≡ Some at → IsThere p at) → In f (named_answers (classes_at p cs) (option_and_then (found_at p) x)) → PlacedAmong p (answers_or x (chain_candidates cs)) f
      by None h i = among_named p (chain_candidates cs) (named_candidates (classes_at p cs)) (candidates_named cs) f i
      by (Some at) h i = record { at = at; is_in = here []; found = one (found_in (named_class p (h at refl).class) (named_method p (h at refl).method)) (found_there_is p at (h at refl)) i }
        where
          one : (y : Found) → found_at p at ≡ Some y → In f (named_answers (classes_at p cs) (found_at p at)) → found_at p at ≡ Some f
          one y e i = e ∙ ap (λ z. Some z) (only f y (subst (λ x. In f (named_answers (classes_at p cs) x)) e i))

  -- what an object of a class of a type answers to
  pub answers_named : (kind : ℕ) → kind < length p.types → (f : Found) → In f (answers_to (named p) (type_at p kind) n q) → IsAnswer p kind name proto f
  answers_named kind hk f i = by (class_place p kind) refl (along (chain_of p (class_place p kind)) f (subst (λ cs. In f (named_answers cs (first_method is_virtual_method n q cs))) (chain_by_number p s kind hk) i))
    where
      by : (o : Option ℕ) → class_place p kind ≡ o → PlacedAmong p (chain_answers (chain_of p o)) f → IsAnswer p kind name proto f
      by None e r = nothing_in r.at (subst (In r.at) (ap chain_answers (chain_none (super_place p) (length p.classes)) ∙ no_candidates p name proto) r.is_in)
      by (Some c) e r = record { class = c; is_class = e; at = r.at; answers = r.is_in; found = r.found }
