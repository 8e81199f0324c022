-- What was taken from pipes and pairs, given back: it touches each object by itself.
use Rattle.std.proofs.Common.{◌≡◌, ◌≢◌, Bool, true, false, cond, Option, Some, List, [], ◌∷◌, ap, sym, ◌∙◌, subst, refl}
use Rattle.std.specs.Prelude.{All, unwrap_or, ◌++◌}
use Rattle.std.specs.FinMap as map
use Rattle.std.specs.Ordering.{eq_by_cmp}
use Rattle.std.proofs.lemmas.List.Elements.{All-head, All-tail}
use Rattle.xc_maps.proofs.Laws.{tied, get-insert_other, num_total, num_exact}
use Rattle.xc_maps.specs.Keys.{num_cmp}
use Rattle.xc_data.specs.declared.object.Num.{Num}
use Rattle.xc_data.specs.declared.object.Object.{Object}
use Rattle.xc_data.specs.declared.object.Object.TheVariants as object
use Rattle.xc_data.specs.declared.entry.KeptItem.{KeptItem}
use Rattle.xc_data.specs.declared.entry.KeptItem.TheVariants.{Bytes, Message}
use Rattle.xc_world.specs.World.{World, Pipe, Pair, empty_pipe, empty_pair, waiting, with_waiting}
use Rattle.xc_world.specs.Run.{item_object, gives, given_back}
use Rattle.xc_world.specs.Laws.{AgreeAt}
use Rattle.xc_world.proofs.LocalParts.{agree_itself}
use Rattle.xc_world.proofs.Objects.{agree_on}

-- ---- two worlds that agree
put_alike : {X : Type 0} (m n : map.FinMap num_cmp X) (k q : Num) (f : Option X → X) → map.get m q ≡ map.get n q
    → map.get (map.insert m k (f (map.get m k))) q ≡ map.get (map.insert n k (f (map.get n k))) q
put_alike m n k q f e = map.get-insert num_total m k (f (map.get m k)) q ∙ by_test (eq_by_cmp num_cmp q k) refl ∙ sym
    (map.get-insert num_total n k (f (map.get n k)) q)
  where
    by_test : (b : Bool) → eq_by_cmp num_cmp q k ≡ b → cond b (Some (f (map.get m k))) (map.get m q) ≡ cond b (Some (f (map.get n k))) (map.get n q)
    by_test true t = ap (λ o. Some (f o)) (subst (λ x. map.get m x ≡ map.get n x) (tied num_total num_exact q k t) e)
    by_test false t = e

gives_alike : (w v : World) (t : KeptItem) (o : Object) → AgreeAt w v o → AgreeAt (gives w t) (gives v t) o
gives_alike w v (Bytes num bytes) (object.Pipe q) e = put_alike w.pipes v.pipes num q
    (λ (found : Option Pipe). record (unwrap_or found empty_pipe) { held = bytes ++ (unwrap_or found empty_pipe).held }) e
gives_alike w v (Bytes num bytes) (object.Word at) e = e
gives_alike w v (Bytes num bytes) (object.Name name) e = e
gives_alike w v (Bytes num bytes) (object.File q) e = e
gives_alike w v (Bytes num bytes) (object.Pair q) e = e
gives_alike w v (Bytes num bytes) object.Jobs e = e
gives_alike w v (Message num side bytes) (object.Pair q) e =
    put_alike w.pairs v.pairs num q (λ (found : Option Pair). with_waiting (unwrap_or found empty_pair) side
    (bytes ∷ waiting (unwrap_or found empty_pair) side)) e
gives_alike w v (Message num side bytes) (object.Word at) e = e
gives_alike w v (Message num side bytes) (object.Name name) e = e
gives_alike w v (Message num side bytes) (object.File q) e = e
gives_alike w v (Message num side bytes) (object.Pipe q) e = e
gives_alike w v (Message num side bytes) object.Jobs e = e

-- giving back in two worlds that agree
pub given_alike : (w v : World) (ts : List KeptItem) (o : Object) → AgreeAt w v o → AgreeAt (given_back w ts) (given_back v ts) o
given_alike w v [] o e = e
given_alike w v (t ∷ ts) o e = gives_alike (given_back w ts) (given_back v ts) t o (given_alike w v ts o e)

gives_away : (w : World) (t : KeptItem) (o : Object) → item_object t ≢ o → AgreeAt w (gives w t) o
gives_away w (Bytes num bytes) (object.Pipe q) away = sym (get-insert_other num_total num_exact w.pipes num q _ (λ e. away (ap object.Pipe (sym e))))
gives_away w (Bytes num bytes) (object.Word at) away = refl
gives_away w (Bytes num bytes) (object.Name name) away = refl
gives_away w (Bytes num bytes) (object.File q) away = refl
gives_away w (Bytes num bytes) (object.Pair q) away = refl
gives_away w (Bytes num bytes) object.Jobs away = refl
gives_away w (Message num side bytes) (object.Pair q) away = sym (get-insert_other num_total num_exact w.pairs num q _ (λ e. away (ap object.Pair (sym e))))
gives_away w (Message num side bytes) (object.Word at) away = refl
gives_away w (Message num side bytes) (object.Name name) away = refl
gives_away w (Message num side bytes) (object.File q) away = refl
gives_away w (Message num side bytes) (object.Pipe q) away = refl
gives_away w (Message num side bytes) object.Jobs away = refl

-- giving back leaves all other objects
pub given_away : (w : World) (ts : List KeptItem) (o : Object) → All (λ t. item_object t ≢ o) ts → AgreeAt w (given_back w ts) o
given_away w [] o away = agree_itself w o
given_away w (t ∷ ts) o away =
    let P : KeptItem → Type 0 = λ x. item_object x ≢ o in
    agree_on w (given_back w ts) (gives (given_back w ts) t) o (given_away w ts o (All-tail P t ts away))
    (gives_away (given_back w ts) t o (All-head P t ts away))

-- it changes no word
pub given_words : (w : World) (ts : List KeptItem) → (given_back w ts).words ≡ w.words
given_words w [] = refl
given_words w (Bytes num bytes ∷ ts) = given_words w ts
given_words w (Message num side bytes ∷ ts) = given_words w ts

-- nor a block
pub given_blocks : (w : World) (ts : List KeptItem) → (given_back w ts).blocks ≡ w.blocks
given_blocks w [] = refl
given_blocks w (Bytes num bytes ∷ ts) = given_blocks w ts
given_blocks w (Message num side bytes ∷ ts) = given_blocks w ts
