-- What a writer has after several pieces, and the tokens of an agreement.
use Rattle.std.specs.Prelude.{ℕ, ℤ, ◌≡◌, List, [], ◌∷◌, ◌++◌, map, refl, codes}
use Rattle.std.proofs.Common.{ap, sym, ◌∙◌, append_assoc}
use Rattle.json.specs.Token.{Token}
use Rattle.json.specs.Tree.{items_tokens}
use Rattle.json.specs.Written.{Written}
use Rattle.serde_json.specs.Data.{string}
use Rattle.serde_json.specs.View.{items_of}
use Rattle.serde_json.specs.Written.{items_outline}
use Rattle.codes_core.specs.Day.{day_text}
use Rattle.posting_core.specs.declared.message.Message.TheVariants.{Agree}
use Rattle.register_store.specs.declared.key.Key.TheVariants.{Kind, Loan, Partner, Objects, First}
use Rattle.register_store.specs.declared.key.Key.TheVariants.{Last}
use Rattle.register_store.specs.Spelling.{key_name}
use Rattle.register_store.specs.MessageTokens.{Grows, list_tokens, string_tokens, text_tokens}
use Rattle.register_store.specs.MessageTokens.{tokens_of}

infixl 10 ◌then◌
pub ◌then◌ : {a b c : Written} {ts us : List Token} → Grows a b ts → Grows b c us
    → Grows a c (ts ++ us)
◌then◌ {a} {b} {c} {ts} {us} first second = record {
  before = second.before ∙ first.before;
  tokens =
      second.tokens ∙ (ap (λ x. x ++ us) first.tokens ∙ append_assoc a.tokens ts us);
}

items : (texts : List (List ℕ))
    → items_tokens (items_outline (items_of (map string texts)))
    ≡ string_tokens texts ++ Token.end_array ∷ []
items [] = refl
items (t ∷ ts) = ap (λ (rest : List Token). Token.string t ∷ rest) (items ts)

pub agree_tokens : (first last : ℤ) (loan partner : List ℕ) (objects : List (List ℕ))
    → (Token.begin_object ∷ []) ++ text_tokens First (day_text first)
    ++ text_tokens Kind (codes "agree") ++ text_tokens Last (day_text last)
    ++ text_tokens Loan loan ++ list_tokens Objects objects ++ text_tokens Partner partner
    ++ Token.end_object ∷ [] ≡ tokens_of (Agree first last loan partner objects)
agree_tokens first last loan partner objects =
    let listed = string_tokens objects ++ Token.end_array ∷ [] in
    let behind = text_tokens Partner partner in
    let end = Token.end_object ∷ [] in
    ap (λ (rest : List Token).
    (Token.begin_object ∷ []) ++ text_tokens First (day_text first)
    ++ text_tokens Kind (codes "agree") ++ text_tokens Last (day_text last)
    ++ text_tokens Loan loan ++ Token.key (key_name Objects) ∷ Token.begin_array ∷ rest)
    (append_assoc listed behind end ∙ ap (λ x. x ++ (behind ++ end)) (sym (items objects)))
