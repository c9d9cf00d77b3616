use Rattle.shuffle.proofs.nuz_draw.Goals as goal

pub returns : goal.returns
returns c = c.draw.ensures _ c.key_words-words.ensures
