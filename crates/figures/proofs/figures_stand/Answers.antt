use Rattle.std.proofs.Common.{refl}
use Rattle.figures.proofs.figures_stand.Goals as goal

pub returns : goal.returns
returns c =
    record {
      struck = refl;
      struck_pieces = refl;
      struck_origin = refl;
      entered = refl;
      entered_pieces = refl;
      joined_pieces = refl;
      in_use = refl;
      tidied_use = refl;
      tidied_pieces = refl;
      past = refl;
      nothing = refl;
      beyond = refl;
      at_end = refl;
      folded = refl;
      minus_one = refl;
      least = refl;
      minus_one_back = refl;
      least_back = refl;
      bytes = refl;
      bytes_back = refl;
    }
