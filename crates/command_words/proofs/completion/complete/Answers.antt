use Rattle.std.proofs.Common.{◌∙◌, ap}
use Rattle.command_words.specs.Words.{texts_of}
use Rattle.command_words.proofs.Splitting.{assembled, back_is, front_is}
use Rattle.command_words.proofs.completion.complete.Goals as goal

pub returns : goal.returns
returns c =
    record {
      words = assembled _ _ _ _ _ _ _ _ _
          (ap texts_of (c.in_ok-line.ensures.items_if_clones_equal (λ x y e. e)
          ∙ c.split_at.ensures.front)
          ∙ front_is c.min.result c.args.words.now c.min.ensures)
          (ap texts_of c.split_at.ensures.back
          ∙ back_is c.min.result c.args.words.now c.min.ensures)
          c.in_ok-fill_in.ensures c.in_ok-fill_in-2.ensures c.in_ok-extend_from_slice.ensures.items;
    }
