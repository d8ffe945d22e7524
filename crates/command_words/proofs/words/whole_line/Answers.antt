use Rattle.std.proofs.Common.{◌≡◌, ◌++◌, ◌∙◌, ◌∷◌, List, [], ap}
use Rattle.std.specs.Borrow.{Bor}
use Rattle.clap.specs.Words.{Text}
use Rattle.command_words.specs.Words.{texts_of}
use Rattle.command_words.proofs.words.whole_line.Goals as goal

after_first : (first : Bor Text) (empty begun whole words : List (Bor Text)) → empty ≡ []
    → begun ≡ empty ++ (first ∷ []) → whole ≡ begun ++ words
    → texts_of whole ≡ first.now ∷ texts_of words
after_first first empty begun whole words is_empty is_begun is_whole =
    ap texts_of (is_whole
    ∙ ap (λ line. line ++ words) (is_begun ∙ ap (λ line. line ++ (first ∷ [])) is_empty))

pub returns : goal.returns
returns c =
    after_first _ _ _ _ c.args.words.now c.new-line.ensures.items c.in_ok-push.ensures.items
    c.in_ok-extend_from_slice.ensures.items
