-- Plays of moves keep their meaning while names are added.
use Rattle.std.proofs.Common.{◌≡◌, ℕ, ◌+◌, ◌<◌, true, List, [], ◌∷◌, ◌++◌, take, get_or, length, Option, Some, None, sym, ap, subst, ◌∙◌}
use Rattle.std.proofs.lemmas.List.{take_more}
use Rattle.std.specs.Option.{option_map}
use Rattle.program_model.specs.declared.program.MethodAt.{MethodAt}
use Rattle.program_model.specs.declared.program.Program.{Program}
use Rattle.program_model.specs.ProgramRules.{is_well_formed}
use Rattle.dalvik_defs.specs.Names.{Text}
use Rattle.dalvik_defs.specs.declared.script.Given.{Given}
use Rattle.dalvik_defs.specs.declared.script.Given.TheVariants as given
use Rattle.dalvik_defs.specs.declared.script.Move.{Move}
use Rattle.dalvik_lookups.specs.declared.types.Kind.{Kind}
use Rattle.dalvik_lookups.specs.declared.types.Types.{Types}
use Rattle.dalvik_lookups.specs.declared.texts.Texts.{Texts}
use Rattle.dalvik_lookups.specs.declared.lookups.Names.{Names}
use Rattle.dalvik_lookups.specs.declared.declared.Declared.{Declared}
use Rattle.dalvik_lookups.specs.declared.plays.Gift.{Gift}
use Rattle.dalvik_lookups.specs.declared.plays.Gift.TheVariants as gift
use Rattle.dalvik_lookups.specs.declared.plays.FieldAt.{FieldAt}
use Rattle.dalvik_lookups.specs.declared.plays.Play.{Play}
use Rattle.dalvik_lookups.specs.declared.plays.Play.TheVariants as play
use Rattle.dalvik_lookups.specs.Declaring.{declared_method, declared_field, IsDeclared}
use Rattle.dalvik_lookups.specs.Playing.{AreEach, AreBoth, IsGift, IsField, IsPlay, ArePlays, Knows, field_of_kind}
use Rattle.dalvik_lookups.specs.Tables.{HasNames, AreReady, Grows}
use Rattle.dalvik_lookups.specs.Views.{names_of, texts_of, Stays, IsType, IsText}
use Rattle.dalvik_lookups.proofs.Interned.{stays_in, stays_below}
use Rattle.dalvik_lookups.proofs.Descriptors.{type_stays}
use Rattle.dalvik_lookups.proofs.Making.{is_type_stays, is_text_stays, has_names_stay}

-- ---- lists and options, entry by entry

pub each_on : {A B : Type 0} (R S : A → B → Type 0) → ((a : A) (b : B) → R a b → S a b) → (ls : List A) (bs : List B) → AreEach R ls bs → AreEach S ls bs
each_on R S f [] [] h = tt
each_on R S f (a ∷ ls) (b ∷ bs) h = (f a b h.0, each_on R S f ls bs h.1)
each_on R S f (a ∷ ls) [] h = h
each_on R S f [] (b ∷ bs) h = h

pub each_last : {A B : Type 0} (R : A → B → Type 0) (ls : List A) (bs : List B) (a : A) (b : B) → AreEach R ls bs → R a b → AreEach R (ls ++ a ∷ []) (bs ++ b ∷ [])
each_last R [] [] a b h k = (k, tt)
each_last R (x ∷ xs) (y ∷ ys) a b h k = (h.0, each_last R xs ys a b h.1 k)
each_last R (x ∷ xs) [] a b h k = absurd h
each_last R [] (y ∷ ys) a b h k = absurd h

pub both_on : {A B : Type 0} (R S : A → B → Type 0) → ((a : A) (b : B) → R a b → S a b) → (o : Option A) (q : Option B) → AreBoth R o q → AreBoth S o q
both_on R S f None None h = tt
both_on R S f (Some a) (Some b) h = f a b h
both_on R S f (Some a) None h = h
both_on R S f None (Some b) h = h

-- ---- what stays

module _ (t t' : Types) (x x' : Texts) (s : Stays (names_of t) (names_of t')) (r : Stays (texts_of x) (texts_of x')) where
  pub gift_stays : (d : Given) (g : Gift) → IsGift t x d g → IsGift t' x' d g
  gift_stays d gift.Null h = record { is = h.is; stands = tt }
  gift_stays d (gift.Word w) h = record { is = h.is; stands = tt }
  gift_stays d (gift.Wide w) h = record { is = h.is; stands = tt }
  gift_stays d (gift.Exposed n) h = record { is = h.is; stands = tt }
  gift_stays d (gift.New k) h = let q = type_stays t t' s k h.stands.kind in record { is = ap (λ u. given.New u) q.1 ∙ h.is; stands = record { kind = q.0; deep = h.stands.deep } }
  gift_stays d (gift.Array k size) h = let q = type_stays t t' s k h.stands.kind in record { is = ap (λ u. given.Array u size) q.1 ∙ h.is; stands = record { kind = q.0; deep = h.stands.deep } }
  gift_stays d (gift.Literal n) h = record { is = ap (λ u. given.Literal u) (stays_in (texts_of x) (texts_of x') r n h.stands) ∙ h.is; stands = stays_below (texts_of x) (texts_of x') r n h.stands }
  gift_stays d (gift.Class n) h = record { is = ap (λ u. given.Class u) (stays_in (texts_of x) (texts_of x') r n h.stands) ∙ h.is; stands = stays_below (texts_of x) (texts_of x') r n h.stands }

  pub gifts_stay : (ds : List Given) (gs : List Gift) → AreEach (IsGift t x) ds gs → AreEach (IsGift t' x') ds gs
  gifts_stay = each_on (IsGift t x) (IsGift t' x') gift_stays

  pub held_stays : (d : Option Given) (g : Option Gift) → AreBoth (IsGift t x) d g → AreBoth (IsGift t' x') d g
  held_stays = both_on (IsGift t x) (IsGift t' x') gift_stays

  pub field_stays : (p : Program) (class name kind : Text) (f : Option FieldAt) → IsField p t class name kind f → IsField p t' class name kind f
  field_stays p class name kind f h = record { of = h.of; typed = is_type_stays t t' s h.of kind h.typed; is = h.is }

  pub play_stays : (p : Program) (m : Move) (y : Play) → IsPlay p t x m y → IsPlay p t' x' m y
  play_stays p m (play.Enter at gifts) h = record { class = h.class; name = h.name; proto = h.proto; values = h.values; is = h.is; found = h.found; given = gifts_stay h.values gifts.items h.given }
  play_stays p m (play.Make place) h = h
  play_stays p m (play.Return g) h = record { value = h.value; is = h.is; given = held_stays h.value g h.given }
  play_stays p m (play.Throw g) h = record { value = h.value; is = h.is; given = gift_stays h.value g h.given }
  play_stays p m (play.Get field holder) h = record { class = h.class; name = h.name; kind = h.kind; on = h.on; is = h.is; found = field_stays p h.class h.name h.kind field h.found; held = held_stays h.on holder h.held }
  play_stays p m (play.Put field holder g) h = record { class = h.class; name = h.name; kind = h.kind; on = h.on; value = h.value; is = h.is; found = field_stays p h.class h.name h.kind field h.found; held = held_stays h.on holder h.held; given = gift_stays h.value g h.given }
  play_stays p m (play.ArrayGet array place) h = record { on = h.on; is = h.is; held = gift_stays h.on array h.held }
  play_stays p m (play.ArrayPut array place g) h = record { on = h.on; value = h.value; is = h.is; held = gift_stays h.on array h.held; given = gift_stays h.value g h.given }
  play_stays p m (play.ArrayLength array) h = record { on = h.on; is = h.is; held = gift_stays h.on array h.held }

  pub plays_stay : (p : Program) (ms : List Move) (ys : List Play) → ArePlays p t x ms ys → ArePlays p t' x' ms ys
  plays_stay p = each_on (IsPlay p t x) (IsPlay p t' x') (play_stays p)

-- what is known is known of more names
pub knows_on : (p : Program) (old new : Names) (d : Declared) → Knows p old d → Grows old new → Knows p new d
knows_on p old new d k g = record {
  well = k.well;
  named = has_names_stay p old new k.named g;
  declared = subst (λ v. IsDeclared p v.items new.kinds.items d) (sym g.strings) (subst (λ v. IsDeclared p old.strings.items v.items d) (sym g.kinds) k.declared);
}

pub ready : (p : Program) (names : Names) (d : Declared) → Knows p names d → AreReady names
ready p names d k = record { types = k.named.types; texts = k.named.texts }

-- one entry more
pub each_more : {A B : Type 0} (R : A → B → Type 0) (ls : List A) (bs more : List B) (i : ℕ) (d : A) (b : B) → i < length ls → AreEach R (take i ls) bs → R (get_or ls i d) b → more ≡ bs ++ b ∷ [] → AreEach R (take (i + 1) ls) more
each_more R ls bs more i d b lt h k e = subst (λ l. AreEach R l more) (sym (take_more ls i d lt)) (subst (AreEach R (take i ls ++ get_or ls i d ∷ [])) (sym e) (each_last R (take i ls) bs (get_or ls i d) b h k))

-- ---- members that moves name

pub field_known : (p : Program) (old first second new : Names) (d : Declared) → Knows p old d → Grows old first → Grows first second → Grows second new → (owner of : Kind) (text : ℕ) (class name kind class' name' kind' : Text)
    → IsType first.types owner class' → IsText second.texts text name' → IsType new.types of kind' → class' ≡ class → name' ≡ name → kind' ≡ kind → (found : Option (ℕ × ℕ))
    → ((p : Program) (t n k : Text) → is_well_formed p ≡ true → HasNames p new → IsDeclared p new.strings.items new.kinds.items d → IsType new.types owner t → IsText new.texts text n → IsType new.types of k → found ≡ declared_field p t n k)
    → (r : Option FieldAt) → r ≡ option_map (field_of_kind of) found → IsField p new.types class name kind r
field_known p old first second new d k a b g owner of text class name kind class' name' kind' o t f e i j found is r made =
    let n = knows_on p second new d (knows_on p first second d (knows_on p old first d k a) b) g in
    let o' = is_type_stays second.types new.types g.types owner class' (is_type_stays first.types second.types b.types owner class' o) in
    let t' = is_text_stays second.texts new.texts g.texts text name' t in
    record {
      of = of;
      typed = subst (IsType new.types of) j f;
      is = made ∙ ap (option_map (field_of_kind of)) (is p class name kind n.well n.named n.declared (subst (IsType new.types owner) e o') (subst (IsText new.texts text) i t') (subst (IsType new.types of) j f));
    }

pub method_known : (p : Program) (old first new : Names) (d : Declared) → Knows p old d → Grows old first → Grows first new → (owner : Kind) (text : ℕ) (class name class' name' proto proto' : Text)
    → IsType first.types owner class' → IsText new.texts text name' → class' ≡ class → name' ≡ name → proto' ≡ proto → (found : Option MethodAt)
    → ((p : Program) (t n : Text) → is_well_formed p ≡ true → HasNames p new → IsDeclared p new.strings.items new.kinds.items d → IsType new.types owner t → IsText new.texts text n → found ≡ declared_method p t n proto')
    → found ≡ declared_method p class name proto
method_known p old first new d k a g owner text class name class' name' proto proto' o t e i j found is =
    let n = knows_on p first new d (knows_on p old first d k a) g in
    is p class name n.well n.named n.declared (subst (IsType new.types owner) e (is_type_stays first.types new.types g.types owner class' o)) (subst (IsText new.texts text) i t) ∙ ap (declared_method p class name) j
