use Rattle.register_store.proofs.laws.posted_holds_something.Goals as goal

pub returns : goal.returns
returns g c old new e changes k comes quiet had none = comes.some quiet none k had
