use Rattle.haand_recv.proofs.put_window.Goals as goal

pub put_rows-requires : goal.put_rows-requires
put_rows-requires c =
    record { positions = c.requires.positions; masks_len = c.requires.masks_len; hashed = c.hash_macs.ensures; arrived = c.requires.arrived }
