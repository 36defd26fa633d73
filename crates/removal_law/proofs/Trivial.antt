-- A face agrees with itself, but for the calm classes that are initialised before one.
use Rattle.std.proofs.Common.{◌≡◌, ℕ, Bool, List, [], ◌∷◌, refl, inl}
use Rattle.std.specs.Prelude.{Option, Some, None}
use Rattle.insn_set.specs.declared.ops.InvokeKind.{InvokeKind}
use Rattle.insn_set.specs.declared.ops.InvokeKind.TheVariants as call
use Rattle.dalvik_defs.specs.Names.{Text}
use Rattle.dalvik_defs.specs.Find.{Found}
use Rattle.dalvik_defs.specs.Face.{Face, Bodies}
use Rattle.dalvik_defs.specs.Outer.{Outer}
use Rattle.dalvik_defs.specs.declared.names.MethodKey.{MethodKey}
use Rattle.dalvik_defs.specs.declared.forms.Form.{Form}
use Rattle.dalvik_defs.specs.declared.program.NamedProgram.{NamedProgram}
use Rattle.removal_law.specs.Agree.{Each, sieved, searched, AgreeOnDeclared, Agree}

abbrev pub AnyType : Text → Type 0
AnyType t = Unit {0}

abbrev pub AnyMethod : MethodKey → Type 0
AnyMethod k = Unit {0}

abbrev pub AnyForm : MethodKey → Form → Type 0
AnyForm k f = Unit {0}

abbrev pub AnyPlace : MethodKey → ℕ → Type 0
AnyPlace k n = Unit {0}

each_any : (ts : List Text) → Each AnyType ts
each_any [] = tt
each_any (t ∷ ts) = (tt, each_any ts)

module _ (calm : Text → Bool) (p : NamedProgram) (o : Outer) (face : Face) (find : Bodies) where
  searched_same : (class : Text) (kind : InvokeKind) (t : Text) (k : MethodKey) → searched face class kind t k ≡ searched (sieved calm face) class kind t k
  searched_same class call.Static t k = refl
  searched_same class call.Direct t k = refl
  searched_same class call.Super t k = refl
  searched_same class call.Virtual t k = refl
  searched_same class call.Interface t k = refl

  declared_same : (x : Option Found) → AgreeOnDeclared AnyType AnyType AnyMethod o face (sieved calm face) x x
  declared_same None = refl
  declared_same (Some f) = inl (record { lives = tt; called = λ t e a b. refl }, refl)

  pub itself : Agree AnyType AnyType AnyMethod AnyForm AnyPlace calm p o face (sieved calm face) find find
  itself = record {
    flags = λ t h. refl;
    under = λ t u h. refl;
    known = λ t e. (tt, tt);
    empty = (tt, tt);
    array = λ t h. (tt, tt);
    item = λ t h. tt;
    base = λ t h. tt;
    new_fits = λ t e. tt;
    new_made = λ t e. tt;
    array_fits = λ t n e. tt;
    bodies = λ k l. refl;
    class_ok = λ k l. tt;
    result_ok = λ k l. tt;
    parameters_ok = λ k l. each_any k.signature.parameters;
    code = λ k b n f l e r i. tt;
    entry = λ k b l e. tt;
    onwards = λ k b n m f l e r i j. tt;
    catches = λ k b n m f l e r i y j. tt;
    news = λ m to t a. (tt, tt);
    arrays = λ m to size t a. tt;
    filled = λ m args t a. tt;
    fields = λ m f k a i. record { same = refl; kind = tt; class = λ x e. tt };
    calls = λ m kind k args t a b d. record { same = searched_same m.class kind t k; live_found = λ g e. tt };
    answers = λ m kind k args a. tt;
    initialiser = λ t h. refl;
    initialiser_live = λ t k h e. tt;
    first = λ t h. refl;
    first_ok = λ t h. each_any (face.first t);
    declared = λ c n q. declared_same (face.declared c n q);
    makes = λ t e. refl;
    made_ok = λ t e. (tt, tt);
    own_field = λ k e. refl;
    own_kind = λ k x e i. tt;
  }
