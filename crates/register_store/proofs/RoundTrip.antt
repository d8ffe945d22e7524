-- A message has one text.
use Rattle.std.proofs.Common.{◌≡◌, ℕ, false, List, [], ◌∷◌, map, Ok, refl, sym, ◌∙◌}
use Rattle.register_store.specs.Kinds.{of_bytes}
use Rattle.serde_json.specs.Data.{string}
use Rattle.serde_json.specs.View.{items_of}
use Rattle.serde_json.specs.Written.{has_float, items_have_float}
use Rattle.posting_core.specs.declared.message.Message as message
use Rattle.posting_core.specs.declared.message.Message.TheVariants.{Move, Pack, Agree, Authorise}
use Rattle.posting_core.specs.declared.message.Message.TheVariants.{Exit, Return, Receive, SignOff}
use Rattle.posting_core.specs.declared.message.Message.TheVariants.{Extend}
use Rattle.register_store.specs.MessageText.{json, IsTextOf}

no_float_listed : (texts : List (List ℕ)) → items_have_float (items_of (map string texts)) ≡ false
no_float_listed [] = refl
no_float_listed (text ∷ texts) = no_float_listed texts

pub no_float : (m : message.Message) → has_float (json m) ≡ false
no_float (Move day x p) = refl
no_float (Pack day x c) = refl
no_float (Agree first last loan partner objects) = rw (no_float_listed objects) refl
no_float (Authorise name loan) = refl
no_float (Exit day x loan) = refl
no_float (Return day x loan p) = refl
no_float (Receive day x loan p) = refl
no_float (SignOff name) = refl
no_float (Extend last loan) = refl

pub one_text : (m : message.Message) (a b : List ℕ) → IsTextOf m a → IsTextOf m b → a ≡ b
one_text m a b h k = h ∙ sym k

-- the bytes spell only one message
pub one_message : (m n : message.Message) (bytes : List ℕ) → of_bytes bytes ≡ Ok m
    → of_bytes bytes ≡ Ok n → m ≡ n
one_message m n bytes h k = cc
